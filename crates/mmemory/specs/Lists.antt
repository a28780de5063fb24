-- SPDX-License-Identifier: Apache-2.0
-- Rows in chunks, and what takes a change of them back.
use Rattle.std.specs.Prelude.{ℕ, ◌+◌, ◌&&◌, ltb, leb, if◌then◌else◌, List, [], ◌++◌, length, set, get_or}
use Rattle.std.specs.List.{flat_map, insert, remove}
use Rattle.sqlite_value.specs.Order.{Row}

-- the rows of some chunks
abbrev pub joined : List (List Row) → List Row
joined = flat_map (λ rows. rows)

-- a chunk with one more row, unless it is full
abbrev pub put_in : ℕ → Row → List Row → List Row
put_in at row rows = if leb at (length rows) && ltb (length rows) 128 then insert rows at row else rows

-- a chunk without a row that is not its only one
abbrev pub taken : ℕ → List Row → List Row
taken at rows = if ltb at (length rows) && ltb 1 (length rows) then remove rows at else rows

-- the chunks with one changed
abbrev pub over : ℕ → (List Row → List Row) → List (List Row) → List (List Row)
over k f chunks = set chunks k (f (get_or chunks k []))

-- the chunks with one joined to the one after it, if both fit into one
abbrev pub joined_at : ℕ → List (List Row) → List (List Row)
joined_at k chunks =
    if ltb (k + 1) (length chunks) && leb (length (get_or chunks k []) + length (get_or chunks (k + 1) [])) 128
    then set (remove chunks (k + 1)) k (get_or chunks k [] ++ get_or chunks (k + 1) [])
    else chunks
