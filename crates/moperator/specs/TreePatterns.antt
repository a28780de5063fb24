-- SPDX-License-Identifier: Apache-2.0
-- The pattern of a tree's atoms, with their counts as the machine keeps them, also in groups.
use Rattle.std.specs.Prelude.{ℕ, ◌≤◌, Bool, false, ◌||◌, List, [], ◌∷◌, map}
use Rattle.mspec.specs.Pattern.{Repeated, members, copies, passing, Atom, IsJoined}
use Rattle.mspec.specs.PatternTests.{is_match}
use Rattle.mgrammar.specs.Grammar.{RepeatedTree, classes, copies as copies_tree, group, AtomsTree, no_atoms, more_atoms, PatternsTree, no_patterns}
use Rattle.mgrammar.specs.Grammar.{more_patterns, AtomTree}
use Rattle.mgrammar.specs.Matching.{pattern_code, count_of}
use Rattle.mtree.specs.CappedCounts.{capped_count}
use Rattle.mtree.specs.Tree.{atom_tree}
use Rattle.mtree.specs.declared.tree.Atom as tree

abbrev mutual
  pub kept_repeated : RepeatedTree → Repeated
  kept_repeated (classes letters) = members (map pattern_code letters)
  kept_repeated (copies_tree t) = copies t
  kept_repeated (group ps) = passing (λ text. is_any_kept ps text)

  pub kept_run : AtomsTree → List Atom
  kept_run no_atoms = []
  kept_run (more_atoms n p rest) = record { count = capped_count (count_of n); repeated = kept_repeated p } ∷ kept_run rest

  pub is_any_kept : PatternsTree → List ℕ → Bool
  is_any_kept no_patterns text = false
  is_any_kept (more_patterns p rest) text = is_match (kept_run p) text || is_any_kept rest text

abbrev pub kept_atom : AtomTree → Atom
kept_atom a = record { count = capped_count (count_of a.count); repeated = kept_repeated a.repeated }

abbrev pub pattern_of : List tree.Atom → List Atom
pattern_of atoms = map kept_atom (map atom_tree atoms)

-- joined of this many texts that pass the test, from the least number up to another
abbrev pub IsJoinedWithin : (List ℕ → Bool) → ℕ → ℕ → List ℕ → Type 0
IsJoinedWithin test least most text = (n : ℕ) × (least ≤ n) × (n ≤ most) × IsJoined test n text
