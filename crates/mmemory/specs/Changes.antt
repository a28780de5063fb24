-- SPDX-License-Identifier: Apache-2.0
-- What a change makes of a tree.
use Rattle.std.specs.Prelude.{◌≡◌, ℕ, ◌+◌, ◌-◌, ◌<◌, ◌≤◌, leb, if◌then◌else◌, List, [], ◌∷◌, ◌++◌, length, take, drop, set, get_or}
use Rattle.std.specs.List.{insert}
use Rattle.sqlite_value.specs.Order.{Row}
use Rattle.mmemory.specs.declared.step.Step.{Step}
use Rattle.mmemory.specs.declared.change.Change.{Change}
use Rattle.mmemory.specs.declared.change.Change.TheVariants.{Put, Set, Take, Begin, Split}
use Rattle.mmemory.specs.Lists.{joined}
use Rattle.mmemory.specs.Nest.{rows_at, front, back, before, after, after_row}
use Rattle.mmemory.specs.Plain.{Plain, heading, plain_rows, undone_step}

-- the tree has these rows under the same heading, and the step gives what was there
pub record Makes (old new : Plain) (step : Step) (rows : List Row) : Type 0 where
  pub back : undone_step step new ≡ old
  pub heading_is : heading new ≡ heading old
  pub rows_are : plain_rows new ≡ rows

-- a chunk is split in two
pub record HalvedAt (old new : List (List Row)) (k : ℕ) : Type 0 where
  pub head : List Row
  pub tail : List Row
  pub both : get_or old k [] ≡ head ++ tail
  pub are : new ≡ insert (set old k head) (k + 1) tail
  pub parts : (0 < length head) × (0 < length tail)

-- what a change needs
abbrev pub Fits : Change → List (List Row) → Type 0
Fits (Put p row) n = (p.chunk < length n) × ((p.row ≤ length (rows_at n p)) × (length (rows_at n p) < 128))
Fits (Set p row) n = (p.chunk < length n) × (p.row < length (rows_at n p))
Fits (Take p) n = (p.chunk < length n) × (p.row < length (rows_at n p))
Fits (Begin at row) n = at ≤ length n
Fits (Split at head) n = (at < length n) × ((0 < head) × (head < length (get_or n at [])))

-- the rows that it makes
abbrev pub rows_after : Change → List (List Row) → List Row
rows_after (Put p row) n = before n p ++ row ∷ after n p
rows_after (Set p row) n = before n p ++ row ∷ after_row n p (p.row + 1)
rows_after (Take p) n = before n p ++ after_row n p (p.row + 1)
rows_after (Begin at row) n = joined (take at n) ++ row ∷ joined (drop at n)
rows_after (Split at head) n = joined n

-- what becomes of the chunks if one is split
abbrev pub Halves : Change → List (List Row) → List (List Row) → Type 0
Halves (Put p row) old new = Unit {0}
Halves (Set p row) old new = Unit {0}
Halves (Take p) old new = Unit {0}
Halves (Begin at row) old new = Unit {0}
Halves (Split at head) old new = HalvedAt old new at

-- where a row is after that
abbrev pub is_moved : ℕ → ℕ → ℕ → ℕ × ℕ
is_moved chunk row head = if leb row head then (chunk, row) else (chunk + 1, row - head)

-- the rows around a place of two chunks that were one
pub record IsMoved (old new : List (List Row)) (k row : ℕ) (at : ℕ × ℕ) : Type 0 where
  pub front_is : front new at.0 at.1 ≡ front old k row
  pub back_is : back new at.0 at.1 ≡ back old k row
  pub inside : at.1 ≤ length (get_or new at.0 [])

-- the tree is another object
pub record Describes (old new : Plain) (step : Step) (reals : ℕ) (described : Row) : Type 0 where
  pub back : undone_step step new ≡ old
  pub new_is : new ≡ record { shape = old.shape; reals = reals; described = described; chunks = old.chunks; spare = old.spare }
