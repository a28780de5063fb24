-- SPDX-License-Identifier: Apache-2.0
-- The rows around a place.
use Rattle.std.specs.Prelude.{◌≡◌, ℕ, ◌+◌, ◌^◌, ◌<◌, List, [], ◌∷◌, ◌++◌, length, take, drop, get_or}
use Rattle.sqlite_value.specs.Order.{Row}
use Rattle.mmemory.specs.Lists.{joined}
use Rattle.mmemory.specs.declared.place.Place.{Place}

-- the rows of the chunk of a place
abbrev pub rows_at : List (List Row) → Place → List Row
rows_at n p = get_or n p.chunk []

-- the rows before a row of a chunk, and those from it on
abbrev pub front : List (List Row) → ℕ → ℕ → List Row
front n chunk row = joined (take chunk n) ++ take row (get_or n chunk [])

abbrev pub back : List (List Row) → ℕ → ℕ → List Row
back n chunk row = drop row (get_or n chunk []) ++ joined (drop (chunk + 1) n)

-- the rows before a place, and those from a row of its chunk on
abbrev pub before : List (List Row) → Place → List Row
before n p = front n p.chunk p.row

abbrev pub after_row : List (List Row) → Place → ℕ → List Row
after_row n p row = back n p.chunk row

abbrev pub after : List (List Row) → Place → List Row
after n p = after_row n p p.row

-- the row at a place is the next one of a list of rows, which comes after another list
pub record ComesNext (n : List (List Row)) (p : Place) (front back : List Row) (row : Row) : Type 0 where
  pub same : before n p ≡ front
  pub from_it : after n p ≡ back
  pub is : back ≡ row ∷ after_row n p (p.row + 1)
  pub small : p.row + 1 < 2 ^ 63
  pub within : p.row < length (rows_at n p)
