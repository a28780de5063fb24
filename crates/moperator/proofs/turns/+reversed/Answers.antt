-- SPDX-License-Identifier: Apache-2.0
use Rattle.moperator.proofs.OperatorWords.{sym, ap, ◌∙◌, Bool, List, map, list_any, ◌||◌, atom_reversed, atom_tree}
use Rattle.std.specs.Prelude.{◌+◌}
use Rattle.std.proofs.Common.{drop}
use Rattle.mgrammar.specs.Grammar.{patterns_of}
use Rattle.mgrammar.specs.Matching.{patterns_reversed}
use Rattle.mtree.specs.Tree.{alternative_trees}
use Rattle.mtree.specs.declared.tree.Atom.{Atom}
use Rattle.moperator.proofs.PatternParts.{first_reversed}
use Rattle.moperator.proofs.turns.+reversed.Goals as goal

pub patterns_reversed-returns-then-has_reversed : goal.patterns_reversed-returns-then-has_reversed
patterns_reversed-returns-then-has_reversed t c =
    let one = first_reversed c.args.patterns.now c.loop-pattern.pattern-index c.pattern-item.result c.loop-pattern-test.true c.pattern-item.is in
    let is = sym c.if-has_reversed.true ∙ c.has_reversed.ensures ∙ ap (λ (xs : List Atom). list_any atom_reversed (map atom_tree xs)) c.deref.ensures.value in
    let rest = patterns_reversed (patterns_of (map alternative_trees (drop (c.loop-pattern.pattern-index + 1) c.args.patterns.now))) in
    ap (λ (b : Bool). b || rest) is ∙ sym one ∙ c.loop-pattern.invariant

pub patterns_reversed-loop-pattern-preserved : goal.patterns_reversed-loop-pattern-preserved
patterns_reversed-loop-pattern-preserved t c =
    let one = first_reversed c.args.patterns.now c.loop-pattern.pattern-index c.pattern-item.result c.loop-pattern-test.true c.pattern-item.is in
    let is = sym c.if-has_reversed.false ∙ c.has_reversed.ensures ∙ ap (λ (xs : List Atom). list_any atom_reversed (map atom_tree xs)) c.deref.ensures.value in
    let rest = patterns_reversed (patterns_of (map alternative_trees (drop (c.loop-pattern.pattern-index + 1) c.args.patterns.now))) in
    ap (λ (b : Bool). b || rest) is ∙ sym one ∙ c.loop-pattern.invariant
