-- SPDX-License-Identifier: Apache-2.0
use Rattle.moperator.proofs.OperatorWords.{ap, ◌∙◌, List, map, arith, turns_of, capped, atom_tree, count_of}
use Rattle.mgrammar.specs.Grammar.{patterns_of}
use Rattle.mgrammar.specs.Matching.{turns_of_patterns}
use Rattle.mtree.specs.Tree.{alternative_trees}
use Rattle.mtree.specs.declared.tree.Atom.{Atom}
use Rattle.mtree.specs.declared.tree.Alternative.{Alternative}
use Rattle.moperator.proofs.PatternParts.{one_turned, atoms_done, patterns_done, group_turned}
use Rattle.moperator.proofs.turns.+turns.Goals as goal

pub turns_of-returns : goal.turns_of-returns
turns_of-returns t c = atoms_done c.args.characters c.args.atoms.now c.loop-atom.atom-index c.loop-atom.all c.loop-atom-test.false c.loop-atom.invariant.fits c.loop-atom.invariant.same

pub turns_of_atom-returns-in-Group : goal.turns_of_atom-returns-in-Group
turns_of_atom-returns-in-Group t c =
    c.saturating_mul.ensures
    ∙ group_turned c.args.characters c.args.atom.now c.in-Group.patterns (count_of c.number.result) c.turns.result c.turns_of_patterns.result c.saturating_add-within.result c.in-Group.is c.number.ensures c.turns.ensures
    (c.turns_of_patterns.ensures ∙ ap (λ (ps : List Alternative). capped (turns_of_patterns c.args.characters (patterns_of (map alternative_trees ps)))) c.deref.ensures.value) c.saturating_add-within.ensures

pub turns_of_patterns-loop-pattern-preserved : goal.turns_of_patterns-loop-pattern-preserved
turns_of_patterns-loop-pattern-preserved t c =
    let one = one_turned c.args.characters c.args.patterns.now c.loop-pattern.pattern-index c.pattern-item.result c.loop-pattern.all c.turns_of.result (turns_of_patterns c.args.characters (patterns_of (map alternative_trees c.args.patterns.now)))
    c.loop-pattern-test.true c.pattern-item.is
    (c.turns_of.ensures ∙ ap (λ (xs : List Atom). capped (turns_of c.args.characters (map atom_tree xs))) c.deref.ensures.value) c.loop-pattern.invariant.same in
    record { same = rw c.saturating_add-all.ensures one; fits = omega (arith, c.saturating_add-all.ensures) }

pub turns_of_patterns-returns : goal.turns_of_patterns-returns
turns_of_patterns-returns t c =
    patterns_done c.args.characters c.args.patterns.now c.loop-pattern.pattern-index c.loop-pattern.all c.loop-pattern-test.false c.loop-pattern.invariant.fits c.loop-pattern.invariant.same
