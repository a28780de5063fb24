-- SPDX-License-Identifier: Apache-2.0
-- The pattern of a tree, whether any of its counts is reversed, and how many turns its groups take at most.
use Rattle.std.specs.Prelude.{ℕ, suc, ◌+◌, ◌*◌, Bool, false, ◌||◌, ◌==◌, List, [], ◌∷◌, map, Option, Some, None, if◌then◌else◌}
use Rattle.mspec.specs.Literal.{digits_after}
use Rattle.mspec.specs.Names.{upper_case}
use Rattle.mgrammar.specs.Grammar.{CountTree, RepeatedTree, classes, copies as copies_tree, group, AtomsTree, no_atoms, more_atoms, PatternsTree, no_patterns}
use Rattle.mgrammar.specs.Grammar.{more_patterns, AtomTree}
use Rattle.mspec.specs.Pattern.{PatternCode, letter, control, everything, lower, numeral, punctuation, upper, Count, Repeated, members, copies, passing, Atom}
use Rattle.mspec.specs.PatternTests.{is_reversed, is_match, turns}

-- ---- the pattern of a tree

-- the code that a letter names in either case, if the grammar has one
abbrev pub pattern_code : ℕ → PatternCode
pattern_code c =
    let capital = upper_case c in
    if capital == 65 then letter
    else (if capital == 67 then control
    else (if capital == 69 then everything
    else (if capital == 76 then lower
    else (if capital == 78 then numeral
    else (if capital == 80 then punctuation else upper)))))

-- the number of some digits, if there are any
abbrev pub bound_of : List ℕ → Option ℕ
bound_of [] = None
bound_of (d ∷ ds) = Some (digits_after 0 (d ∷ ds))

-- in a count without a point the digits in front are both bounds; otherwise those after the point are the upper one
abbrev pub most_of : List ℕ → Option (List ℕ) → Option ℕ
most_of front None = bound_of front
most_of front (Some behind) = bound_of behind

abbrev pub count_of : CountTree → Count
count_of c = record { least = digits_after 0 c.front; most = most_of c.front c.behind }

-- of a group, the texts that any of its patterns matches
abbrev mutual
  pub repeated_of : RepeatedTree → Repeated
  repeated_of (classes letters) = members (map pattern_code letters)
  repeated_of (copies_tree t) = copies t
  repeated_of (group ps) = passing (λ text. is_any_match ps text)

  pub atoms_in : AtomsTree → List Atom
  atoms_in no_atoms = []
  atoms_in (more_atoms n p rest) = record { count = count_of n; repeated = repeated_of p } ∷ atoms_in rest

  pub is_any_match : PatternsTree → List ℕ → Bool
  is_any_match no_patterns text = false
  is_any_match (more_patterns p rest) text = is_match (atoms_in p) text || is_any_match rest text

abbrev pub atom_of : AtomTree → Atom
atom_of a = record { count = count_of a.count; repeated = repeated_of a.repeated }

-- ---- counts

-- any count in what is repeated has a greatest one below its least
abbrev mutual
  pub has_reversed : RepeatedTree → Bool
  has_reversed (classes letters) = false
  has_reversed (copies_tree t) = false
  has_reversed (group ps) = patterns_reversed ps

  pub run_reversed : AtomsTree → Bool
  run_reversed no_atoms = false
  run_reversed (more_atoms n p rest) = (is_reversed (count_of n) || has_reversed p) || run_reversed rest

  pub patterns_reversed : PatternsTree → Bool
  patterns_reversed no_patterns = false
  patterns_reversed (more_patterns p rest) = run_reversed p || patterns_reversed rest

abbrev pub atom_reversed : AtomTree → Bool
atom_reversed a = is_reversed (count_of a.count) || has_reversed a.repeated

-- ---- turns

-- The turns that an atom takes at most, with this many turns of its own, of a text with this many characters: each turn of a group is one, and
-- in each turn there are those of all atoms of its patterns.
abbrev mutual
  pub turns_of_repeated : ℕ → ℕ → RepeatedTree → ℕ
  turns_of_repeated n own (classes letters) = 0
  turns_of_repeated n own (copies_tree t) = 0
  turns_of_repeated n own (group ps) = own * suc (turns_of_patterns n ps)

  pub turns_of_run : ℕ → AtomsTree → ℕ
  turns_of_run n no_atoms = 0
  turns_of_run n (more_atoms c p rest) = turns_of_repeated n (turns (count_of c) n) p + turns_of_run n rest

  pub turns_of_patterns : ℕ → PatternsTree → ℕ
  turns_of_patterns n no_patterns = 0
  turns_of_patterns n (more_patterns p rest) = turns_of_run n p + turns_of_patterns n rest

abbrev pub turns_of_atom : ℕ → AtomTree → ℕ
turns_of_atom n a = turns_of_repeated n (turns (count_of a.count) n) a.repeated

-- those of a pattern
abbrev pub turns_of : ℕ → List AtomTree → ℕ
turns_of n [] = 0
turns_of n (a ∷ rest) = turns_of_atom n a + turns_of n rest
