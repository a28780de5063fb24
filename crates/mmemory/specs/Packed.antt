-- SPDX-License-Identifier: Apache-2.0
-- The row that a packed one is.
use Rattle.std.specs.Prelude.{◌≤◌, [], ◌∷◌, length, take, drop, ⊤}
use Rattle.sqlite_value.specs.declared.value.Value.TheVariants.{Int, Blob}
use Rattle.sqlite_value.specs.Order.{Row}
use Rattle.mmemory.specs.declared.packed.Form.{Form}
use Rattle.mmemory.specs.declared.packed.Form.TheVariants.{Entry, Node, Other}

abbrev pub row_of : Form → Row
row_of (Entry bytes n) = Blob bytes.items ∷ Int n ∷ []
row_of (Node cut n bytes) = Int n ∷ Blob (take cut bytes.items) ∷ Blob (drop cut bytes.items) ∷ []
row_of (Other row) = row.value

-- the second text begins within the bytes
abbrev pub IsCut : Form → Type 0
IsCut (Entry bytes n) = ⊤
IsCut (Node cut n bytes) = cut ≤ length bytes.items
IsCut (Other row) = ⊤
