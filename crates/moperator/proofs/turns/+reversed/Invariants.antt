-- SPDX-License-Identifier: Apache-2.0
use Rattle.moperator.proofs.OperatorWords.{◌≡◌, drop, map, list_any, atom_reversed, atom_tree}
use Rattle.mgrammar.specs.Grammar.{patterns_of}
use Rattle.mgrammar.specs.Matching.{patterns_reversed}
use Rattle.mtree.specs.Tree.{alternative_trees}
use Rattle.moperator.proofs.turns.+reversed.Given as goal

abbrev pub invariant-patterns_reversed-loop-pattern : goal.invariant-patterns_reversed-loop-pattern
invariant-patterns_reversed-loop-pattern l = patterns_reversed (patterns_of (map alternative_trees (drop l.pattern-index l.patterns))) ≡ patterns_reversed (patterns_of (map alternative_trees l.patterns))

abbrev pub invariant-has_reversed-loop-atom : goal.invariant-has_reversed-loop-atom
invariant-has_reversed-loop-atom l = list_any atom_reversed (map atom_tree (drop l.atom-index l.atoms)) ≡ list_any atom_reversed (map atom_tree l.atoms)
