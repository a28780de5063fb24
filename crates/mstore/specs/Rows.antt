-- SPDX-License-Identifier: Apache-2.0
-- The rows of the table of nodes as a map from keys to values.
use Rattle.std.specs.Prelude.{◌≡◌, ◌≤◌, ℕ, ℤ, int_lt, IsTrue, List, ◌∷◌, [], length, Bool, find, Option, Some, None, option_map}
use Rattle.std.specs.Ordering.{is_eq, nat_cmp}
use Rattle.std.specs.Cmp.Lexicographic.{slice_cmp}
use Rattle.sqlite_value.specs.declared.value.Value.{Value}
use Rattle.sqlite_value.specs.declared.value.Value.TheVariants.{Int, Blob}
use Rattle.sqlite_value.specs.Order.{Row, column, bytes}
use Rattle.sqlite_trees.specs.Tree.{rowid}
use Rattle.sqlite_rules.specs.Lists.{Has}
use Rattle.sqlite_rules.specs.Edit.{id_in}
use Rattle.mkey.specs.Key.{IsKey, IsKeyBy}
use Rattle.mspec.specs.Node.{Node}
use Rattle.mspec.specs.KeyBytes.{IsAscii}
use Rattle.mspec.specs.TextFunctions.{max_text}
use Rattle.mstore.specs.Map.{Content, IsNearest, HasNone}

abbrev pub key_of : Row → List ℕ
key_of r = bytes (column r 1)

abbrev pub value_of : Row → List ℕ
value_of r = bytes (column r 2)

abbrev pub is_at : List ℕ → Row → Bool
is_at k r = is_eq (slice_cmp nat_cmp (key_of r) k)

-- the value beside the key
abbrev pub lookup : List Row → Content
lookup rows k = option_map value_of (find (is_at k) rows)

-- a rowid, a key and a value
abbrev pub IsNode : Row → Type 0
IsNode r = r ≡ Int (id_in (rowid r)) ∷ Blob (key_of r) ∷ Blob (value_of r) ∷ []

-- what a node may hold
abbrev pub IsValue : List ℕ → Type 0
IsValue v = (length v ≤ max_text) × IsAscii v

-- the key of a node of a store, with what it may hold
abbrev pub IsInForm : List ℕ → List ℕ → Type 0
IsInForm k v = IsKey k × IsValue v

-- the same when the numbers of keys keep `kept` digits
abbrev pub IsInFormBy : ℕ → List ℕ → List ℕ → Type 0
IsInFormBy kept k v = ((n : Node) × IsKeyBy kept n k) × IsValue v

-- no two rows have one rowid or one key, and each has such a key and value
pub record AreRows (F : List ℕ → List ℕ → Type 0) (rows : List Row) : Type 0 where
  pub each : (r : Row) → Has rows r → IsNode r
  pub in_form : (r : Row) → Has rows r → F (key_of r) (value_of r)
  pub ids : (r s : Row) → Has rows r → Has rows s → rowid r ≡ rowid s → r ≡ s
  pub keys : (r s : Row) → Has rows r → Has rows s → key_of r ≡ key_of s → r ≡ s

-- and each is in form
abbrev pub AreNodes : List Row → Type 0
AreNodes = AreRows IsInForm

-- ---- what an answer shows of them

-- the row shows the value, and there is none if there is no value
abbrev pub ShowsValue : Option (List ℕ) → Option Row → Type 0
ShowsValue found None = found ≡ None
ShowsValue found (Some row) = (v : List ℕ) × (row ≡ Blob v ∷ []) × (found ≡ Some v)

-- the row shows the key that is sought, and there is none if there is no such key
abbrev pub ShowsKey : Bool → Content → List ℕ → List ℕ → Option Row → Type 0
ShowsKey down m low high None = HasNone m low high
ShowsKey down m low high (Some row) = (k : List ℕ) × (row ≡ Blob k ∷ []) × IsNearest down m low high k

-- after a rowid the row is a key and a value, in form
abbrev pub ShowsNode : Row → Type 0
ShowsNode row = (id : Value) × (k : List ℕ) × (v : List ℕ) × (row ≡ id ∷ Blob k ∷ Blob v ∷ []) × IsInForm k v

abbrev pub ShowsNodeBy : ℕ → Row → Type 0
ShowsNodeBy kept row = (id : Value) × (k : List ℕ) × (v : List ℕ) × (row ≡ id ∷ Blob k ∷ Blob v ∷ []) × IsInFormBy kept k v

-- what is shown of a row
abbrev pub shown_of : Row → Row
shown_of r = column r 0 ∷ column r 1 ∷ column r 2 ∷ []

-- the number is above the last, if there is one
abbrev pub IsAbove : Option ℤ → ℤ → Type 0
IsAbove None n = Unit {0}
IsAbove (Some m) n = IsTrue (int_lt m n)

-- each row shows a rowid that is above that of the row before it
abbrev pub RiseFrom : Option ℤ → List Row → Type 0
RiseFrom last [] = Unit {0}
RiseFrom last (r ∷ rows) = (n : ℤ) × (column r 0 ≡ Int n) × IsAbove last n × RiseFrom (Some n) rows

-- each row has a rowid, and those of one rowid show the same
pub record AreNumbered (rows : List Row) : Type 0 where
  pub each : (r : Row) → Has rows r → (n : ℤ) × (column r 0 ≡ Int n)
  pub single : (r s : Row) → Has rows r → Has rows s → column r 0 ≡ column s 0 → shown_of r ≡ shown_of s

-- a row that is no node in form
abbrev pub HasOther : List Row → Type 0
HasOther rows = (r : Row) × Has rows r × (ShowsNode (shown_of r) → ⊥)

abbrev pub HasOtherBy : ℕ → List Row → Type 0
HasOtherBy kept rows = (r : Row) × Has rows r × (ShowsNodeBy kept (shown_of r) → ⊥)
