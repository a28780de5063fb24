-- SPDX-License-Identifier: Apache-2.0
-- A stretch of the table: the rows between two keys, none left out. What is asked between these keys it answers as the table does.
use Rattle.std.specs.Prelude.{◌≡◌, ◌==◌, ◌≤◌, ◌⊎◌, ◌-◌, ◌++◌, ℕ, nat_lt, Bool, true, false, if◌then◌else◌, List, [], ◌∷◌, length, slice_get, Option, Some, None, IsSome, Result, Ok, Err}
use Rattle.std.specs.List.Sorted.{IsPartitionPoint, IsSortedBy}
use Rattle.sqlite_value.specs.declared.value.Value.{Value}
use Rattle.sqlite_value.specs.declared.value.Value.TheVariants.{Null, Int, Real, Text, Blob}
use Rattle.sqlite_value.specs.Order.{Row, column}
use Rattle.sqlite_trees.specs.declared.store.Store.{Ghosts}
use Rattle.sqlite_rules.specs.Lists.{Has}
use Rattle.sqlite.specs.Held.{Held, state}
use Rattle.mnodes.specs.Doubt.{shut}
use Rattle.mstore.specs.Database.{IsStore, doubt_of}
use Rattle.mstore.specs.Map.{Content, in_bounds, is_below}
use Rattle.mstore.specs.declared.stretch.Stretch.{Stretch}

-- ---- the rows that are shown, a key and a text each

abbrev pub blob_of : Value → List ℕ
blob_of Null = []
blob_of (Int n) = []
blob_of (Real x) = []
blob_of (Text t) = []
blob_of (Blob b) = b

abbrev pub shown_key : Row → List ℕ
shown_key r = blob_of (column r 0)

abbrev pub shown_text : Row → List ℕ
shown_text r = blob_of (column r 1)

-- no key is below the key before it
abbrev pub AreInOrder : List Row → Type 0
AreInOrder rows = IsSortedBy (λ a b. is_below (shown_key a) (shown_key b)) rows

-- one of the rows has the key
abbrev pub ShowKey : List Row → List ℕ → Type 0
ShowKey rows k = (r : Row) × Has rows r × (shown_key r ≡ k)

-- each row is one of the map's within the bounds
abbrev pub AreOf : Content → List ℕ → List ℕ → List Row → Type 0
AreOf m low high rows = (r : Row) → Has rows r → (in_bounds low high (shown_key r) ≡ true) × (m (shown_key r) ≡ Some (shown_text r))

-- A key is in the rows; or they are as many as were asked for, and it is not below any of theirs.
abbrev pub IsShownOrLater : ℕ → List Row → List ℕ → Type 0
IsShownOrLater most rows k = ShowKey rows k ⊎ ((most ≤ length rows) × ((r : Row) → Has rows r → is_below k (shown_key r) ≡ false))

-- the first rows of the map within the bounds, of which `most` were asked for
pub record ShowsFirst (m : Content) (low high : List ℕ) (most : ℕ) (rows : List Row) : Type 0 where
  pub in_order : AreInOrder rows
  pub each : AreOf m low high rows
  pub all : (k : List ℕ) → IsSome (m k) → in_bounds low high k ≡ true → IsShownOrLater most rows k

-- ---- a stretch

-- Those of the rows that are within the bounds are what the map has there. No row is beyond them; there may be some before them, of which
-- nothing is said.
pub record IsStretch (m : Content) (low high : List ℕ) (rows : List Row) : Type 0 where
  pub in_order : AreInOrder rows
  pub below : (r : Row) → Has rows r → is_below (shown_key r) high ≡ true
  pub there : (r : Row) → Has rows r → in_bounds low high (shown_key r) ≡ true → m (shown_key r) ≡ Some (shown_text r)
  pub all : (k : List ℕ) → IsSome (m k) → in_bounds low high k ≡ true → ShowKey rows k

-- what was read ahead agrees with the map
abbrev pub Agrees : Content → Stretch → Type 0
Agrees m s = IsStretch m s.low.items s.high.items s.rows.items

-- the least bytes above a key
abbrev pub after : List ℕ → List ℕ
after k = k ++ 0 ∷ []

abbrev pub after_row : Option Row → List ℕ
after_row None = []
after_row (Some r) = after (shown_key r)

-- up to where the rows are all that there are: the end of the range, or the last key, if as many were read as were asked for
abbrev pub end_of : List Row → List ℕ → ℕ → List ℕ
end_of rows high most = if nat_lt (length rows) most then high else after_row (slice_get rows (length rows - 1))

-- the row's key, if it comes before these bytes
abbrev pub key_before : Row → List ℕ → Option (List ℕ)
key_before r high = if is_below (shown_key r) high then Some (shown_key r) else None

-- and if it does not
abbrev pub key_from : Row → List ℕ → Option (List ℕ)
key_from r low = if is_below (shown_key r) low then None else Some (shown_key r)

-- the row before a place
abbrev pub row_before : List Row → ℕ → Option Row
row_before rows place = if place == 0 then None else slice_get rows (place - 1)

-- the row's key comes before these bytes
abbrev pub comes_before : List ℕ → Row → Bool
comes_before bytes r = is_below (shown_key r) bytes

-- the first i keys come before these bytes, and the others do not
abbrev pub IsPlaceFor : List Row → List ℕ → ℕ → Type 0
IsPlaceFor rows bytes i = IsPartitionPoint (λ r. comes_before bytes r ≡ true) (λ r. comes_before bytes r ≡ false) rows i

-- ---- two maps that differ at one key, or within bounds

abbrev pub AgreeBut : Content → Content → List ℕ → Type 0
AgreeBut old new k = (q : List ℕ) → (q ≡ k → ⊥) → new q ≡ old q

abbrev pub AgreeOutside : Content → Content → List ℕ → List ℕ → Type 0
AgreeOutside old new low high = (q : List ℕ) → in_bounds low high q ≡ false → new q ≡ old q

-- ---- what a call does to the doubt that may read ahead, or need not read at all

-- whether a call told what was asked
abbrev pub tells : {X F : Type 0} → Result (Option X) F → Bool
tells (Ok None) = false
tells (Ok (Some x)) = true
tells (Err fault) = false

-- the doubt never falls, and the call that shuts the store is not done
pub record DoubtsReading {S : Type 0} (g : Ghosts S) (old new : Held S) (is_done : Bool) : Type 0 where
  pub order : doubt_of g old ≤ doubt_of g new
  pub failed : doubt_of g old ≡ 0 → IsStore (state g old) → doubt_of g new ≡ shut → is_done ≡ false
