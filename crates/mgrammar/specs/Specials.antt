-- SPDX-License-Identifier: Apache-2.0
-- The special variables, one row each: the word, its abbreviation, and the first language that has it.
--
-- Restates "Intrinsic special variables" of ISO/IEC 11756:1999, of those that some language has.
use Rattle.std.specs.Prelude.{ℕ, if◌then◌else◌, Option, Some, None, List, [], ◌∷◌, codes}
use Rattle.mgrammar.specs.Grammar.{is_either}

pub data SpecialTree : Type 0 where
  test_special : SpecialTree
  io_special : SpecialTree
  job_special : SpecialTree
  principal_special : SpecialTree
  storage_special : SpecialTree
  column_special : SpecialTree
  row_special : SpecialTree
  quit_special : SpecialTree

pub record SpecialRow : Type 0 where
  pub short : List ℕ
  pub whole : List ℕ
  pub special : SpecialTree
  pub since : ℕ

abbrev row : List ℕ → List ℕ → SpecialTree → ℕ → SpecialRow
row short whole special since = record { short = short; whole = whole; special = special; since = since }

abbrev pub special_rows : List SpecialRow
special_rows =
    row (codes "t") (codes "test") test_special 0
    ∷ row (codes "i") (codes "io") io_special 1
    ∷ row (codes "j") (codes "job") job_special 1
    ∷ row (codes "p") (codes "principal") principal_special 1
    ∷ row (codes "q") (codes "quit") quit_special 1
    ∷ row (codes "s") (codes "storage") storage_special 1
    ∷ row (codes "x") (codes "x") column_special 1
    ∷ row (codes "y") (codes "y") row_special 1
    ∷ []

abbrev pub special_named : List ℕ → List SpecialRow → Option SpecialTree
special_named w [] = None
special_named w (r ∷ rs) = if is_either r.short r.whole w then Some r.special else special_named w rs

-- the name of an `svn`: the whole word or its abbreviation
unfoldable pub special_of : List ℕ → Option SpecialTree
special_of w = special_named w special_rows

-- the first language that has the special variable of a word; 0 if none has it
abbrev pub since_special_named : List ℕ → List SpecialRow → ℕ
since_special_named w [] = 0
since_special_named w (r ∷ rs) = if is_either r.short r.whole w then r.since else since_special_named w rs

unfoldable pub since_special : List ℕ → ℕ
since_special w = since_special_named w special_rows
