-- SPDX-License-Identifier: Apache-2.0
use Rattle.moperator.proofs.OperatorWords.{◌≡◌, ◌-◌, ◌≤◌, true, take, map, Matches, IsJoined, is_any_kept, kept_atom, atom_tree, AreLed, IsJoinedWithin}
use Rattle.mgrammar.specs.Grammar.{patterns_of}
use Rattle.mtree.specs.Tree.{alternative_trees}
use Rattle.moperator.proofs.places.+ends.Given as goal

abbrev pub invariant-ends_of_repeated-loop-turn : goal.invariant-ends_of_repeated-loop-turn
invariant-ends_of_repeated-loop-turn l = record {
  fits : l.turn ≤ l.turns;
  now : AreLed l.text (IsJoined (is_any_kept (patterns_of (map alternative_trees l.patterns.items))) l.turn) l.starts l.places.items;
  so_far : AreLed l.text (IsJoinedWithin (is_any_kept (patterns_of (map alternative_trees l.patterns.items))) l.count.least l.turn) l.starts l.ends.items;
}

abbrev pub decreases-ends_of_repeated-loop-turn : goal.decreases-ends_of_repeated-loop-turn
decreases-ends_of_repeated-loop-turn l = l.turns - l.turn

abbrev pub invariant-ends_of_any-loop-pattern : goal.invariant-ends_of_any-loop-pattern
invariant-ends_of_any-loop-pattern l = AreLed l.text (λ t. is_any_kept (patterns_of (map alternative_trees (take l.pattern-index l.patterns))) t ≡ true) l.starts l.all.items

abbrev pub invariant-ends_of_atoms-loop-atom : goal.invariant-ends_of_atoms-loop-atom
invariant-ends_of_atoms-loop-atom l = AreLed l.text (Matches (map kept_atom (map atom_tree (take l.atom-index l.atoms)))) l.starts l.places.items
