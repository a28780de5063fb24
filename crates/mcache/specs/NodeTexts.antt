-- SPDX-License-Identifier: Apache-2.0
-- What is kept of a store: texts by the bytes of their keys.
use Rattle.std.specs.Prelude.{◌≡◌, ◌⊎◌, ℕ, Bool, true, nat_eq, List, Some, Vec}
use Rattle.std.specs.FinMap.{get}
use Rattle.std.specs.List.{Contains, starts_with}
use Rattle.std.specs.declared.alloc.Global.{Global}
use Rattle.mspec.specs.Globals.{Globals}
use Rattle.mspec.specs.KeyBytes.{key_bytes, IsStored}
use Rattle.mspec.specs.Node.{Text, Node}
use Rattle.mspec.specs.Number.{significant_digits}
use Rattle.mnodes.specs.Held.{AreHeld}

-- the bytes of a key, and a text
abbrev pub Entry : Type 0
Entry = Vec ℕ Global × Text

-- the entry has these bytes and this text
abbrev pub IsAt : List ℕ → Text → Entry → Type 0
IsAt bytes text e = (e.0.items ≡ bytes) × (e.1 ≡ text)

-- one of the entries is such
abbrev pub IsKeptAt : List Entry → List ℕ → Text → Type 0
IsKeptAt es bytes text = (e : Entry) × Contains es e × IsAt bytes text e

-- each entry after a call was there before it
abbrev pub IsIn : List Entry → List Entry → Type 0
IsIn after before = (e : Entry) → Contains after e → Contains before e

-- each was there, or has these bytes and this text
abbrev pub IsInOr : List Entry → List Entry → List ℕ → Text → Type 0
IsInOr after before bytes text = (e : Entry) → Contains after e → Contains before e ⊎ IsAt bytes text e

-- each key of an entry that begins with these bytes is among the keys
abbrev pub IsAmong : List (Vec ℕ Global) → List ℕ → Type 0
IsAmong keys bytes = (k : Vec ℕ Global) × Contains keys k × (k.items ≡ bytes)

abbrev pub AreKeysOf : List Entry → List ℕ → List (Vec ℕ Global) → Type 0
AreKeysOf es front keys = (e : Entry) → Contains es e → starts_with nat_eq e.0.items front ≡ true → IsAmong keys e.0.items

-- the key is a node's, which has this text in the store
pub record IsOf (g : Globals) (e : Entry) : Type 0 where
  pub node : Node
  pub stored : IsStored node
  pub key : key_bytes significant_digits node ≡ e.0.items
  pub text : get g node ≡ Some e.1

-- each entry is of the store; there are none before the store was read or set, and from then on it is known what the store may hold
pub record AreOf (g : Globals) (told : Bool) (es : List Entry) : Type 0 where
  pub each : (e : Entry) → Contains es e → IsOf g e
  pub after : (e : Entry) → Contains es e → told ≡ true
  pub held : told ≡ true → AreHeld g
