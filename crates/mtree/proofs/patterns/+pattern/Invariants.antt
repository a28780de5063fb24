-- SPDX-License-Identifier: Apache-2.0
use Rattle.std.proofs.Common.{◌≡◌, ◌++◌, ◌∷◌, drop, map}
use Rattle.mtree.specs.Tree.{alternative_trees, atom_tree}
use Rattle.mtree.proofs.PatternTexts.{spell_from}
use Rattle.mgrammar.specs.Grammar.{spell_atoms, spell_patterns, patterns_of}
use Rattle.mtree.proofs.patterns.+pattern.Given as goal

abbrev pub invariant-put_atoms-loop-atom : goal.invariant-put_atoms-loop-atom
invariant-put_atoms-loop-atom l = l.out ++ spell_atoms (map atom_tree (drop l.atom-index l.atoms)) ≡ l.fn.out ++ spell_atoms (map atom_tree l.atoms)

abbrev pub invariant-put_group-loop-pattern : goal.invariant-put_group-loop-pattern
invariant-put_group-loop-pattern l = l.out ++ spell_from l.first (patterns_of (map alternative_trees (drop l.pattern-index l.patterns))) ≡ l.fn.out ++ 40 ∷ spell_patterns (patterns_of (map alternative_trees l.patterns))
