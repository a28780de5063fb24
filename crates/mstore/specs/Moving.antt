-- SPDX-License-Identifier: Apache-2.0
-- How the rows of a store of version 1 go to their keys of this version, one after another inside a transaction.
use Rattle.std.specs.Prelude.{◌≡◌, ◌≢◌, ◌⊎◌, ℕ, List, [], ◌∷◌, Some, None, Ok, IsTrue}
use Rattle.sqlite_value.specs.declared.value.Value.TheVariants.{Blob}
use Rattle.sqlite_value.specs.Order.{Row}
use Rattle.sqlite_rules.specs.Lists.{Has}
use Rattle.sqlite.specs.State.{State, IsLive, ExecutesInside}
use Rattle.mspec.specs.Node.{Node}
use Rattle.mspec.specs.Number.{significant_digits}
use Rattle.mspec.specs.KeyBytes.{key_bytes, IsStored}
use Rattle.mkey.specs.Key.{IsKeyBy, old_digits}
use Rattle.mstore.specs.Layout.{schema}
use Rattle.mstore.specs.Map.{Content}
use Rattle.mstore.specs.Rows.{AreRows, IsInFormBy}
use Rattle.mstore.specs.Database.{IsCalm, HasVersion, OnlyGives, old_version, content}

abbrev pub IsAny : List ℕ → List ℕ → Type 0
IsAny k v = Unit {0}

-- both tables, with version 1, and the rows are a map by fifteen digits
pub record IsOldStore (s : State) : Type 0 where
  pub calm : IsCalm s
  pub version : HasVersion s.now old_version
  pub only : OnlyGives s.now old_version
  pub rows : AreRows (IsInFormBy old_digits) (s.now.trees 0)

-- the same before the rows are known
pub record IsOldCalm (s : State) : Type 0 where
  pub calm : IsCalm s
  pub live : IsLive s
  pub version : HasVersion s.now old_version
  pub only : OnlyGives s.now old_version

-- inside a transaction, both tables are there, and the rows are a map, whatever their keys
pub record IsWorking (s : State) : Type 0 where
  pub inside : IsTrue s.in_transaction
  pub schema_is : s.now.schema ≡ schema
  pub rows : AreRows IsAny (s.now.trees 0)

-- a statement of two parameters was carried out
abbrev pub RanInside : List ℕ → List ℕ → List ℕ → State → State → Type 0
RanInside text first second old new = (count : ℕ) × ExecutesInside 0 text (Blob first ∷ Blob second ∷ []) old new (Ok count)

-- the map, with what was at one key now at another
pub record MovesKey (old new : Content) (from to v : List ℕ) : Type 0 where
  pub at : from ≢ to → new to ≡ Some v
  pub gone : from ≢ to → new from ≡ None
  pub same : from ≡ to → (q : List ℕ) → new q ≡ old q
  pub others : (q : List ℕ) → q ≢ from → q ≢ to → new q ≡ old q

-- what the row shows has gone from its key by fifteen digits to that of this version
pub record MovesRow (row : Row) (old new : State) : Type 0 where
  pub node : Node
  pub key : List ℕ
  pub value : List ℕ
  pub shows : row ≡ Blob key ∷ Blob value ∷ []
  pub is : IsKeyBy old_digits node key
  pub moved : MovesKey (content old) (content new) key (key_bytes significant_digits node) value
  pub version : new.now.trees 2 ≡ old.now.trees 2

-- the rows show all that the map has, and nothing else, and its keys are those of nodes by fifteen digits
pub record ShowContent (c : Content) (shown : List Row) : Type 0 where
  pub each : (k v : List ℕ) → c k ≡ Some v → ((n : Node) × IsKeyBy old_digits n k) × Has shown (Blob k ∷ Blob v ∷ [])
  pub only : (k v : List ℕ) → Has shown (Blob k ∷ Blob v ∷ []) → c k ≡ Some v

-- what was at a node's key by fifteen digits is at its key of this version, or is still to be moved; and nothing else is there
pub record IsMoving (old new : Content) (left : List Row) : Type 0 where
  pub forth : (n : Node) (v : List ℕ) → IsStored n → old (key_bytes old_digits n) ≡ Some v
      → (new (key_bytes significant_digits n) ≡ Some v) ⊎ ((new (key_bytes old_digits n) ≡ Some v) × Has left (Blob (key_bytes old_digits n) ∷ Blob v ∷ []))
  pub back : (q v : List ℕ) → new q ≡ Some v
      → (n : Node) × IsStored n × (old (key_bytes old_digits n) ≡ Some v) × ((q ≡ key_bytes significant_digits n) ⊎ ((q ≡ key_bytes old_digits n) × Has left (Blob q ∷ Blob v ∷ [])))
