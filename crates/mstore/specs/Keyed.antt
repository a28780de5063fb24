-- SPDX-License-Identifier: Apache-2.0
-- Rows with the bytes of a key and of a text, as the globals that they hold.
use Rattle.std.specs.Prelude.{ℕ, List, map, option_map}
use Rattle.std.specs.List.{find, AllByRecursion}
use Rattle.std.specs.Ordering.{nat_cmp, is_eq}
use Rattle.std.specs.Cmp.Lexicographic.{slice_cmp}
use Rattle.std.specs.FinMap.{from_entries}
use Rattle.mspec.specs.Globals.{Globals}
use Rattle.mspec.specs.KeyReading.{node_of}
use Rattle.mkey.specs.Key.{IsKey}
use Rattle.mstore.specs.Map.{Content}

module _ {A : Type 0} (key_of value_of : A → List ℕ) where
  -- the value at a key: that of the first row that has the key
  abbrev pub lookup_by : List A → Content
  lookup_by rows k = option_map value_of (find (λ r. is_eq (slice_cmp nat_cmp (key_of r) k)) rows)

  -- what the rows hold
  abbrev pub globals_by : List A → Globals
  globals_by rows = from_entries (map (λ r. (node_of (key_of r), value_of r)) rows)

-- each row's key is that of a node
abbrev pub AreKeyed : {A : Type 0} → (A → List ℕ) → List A → Type 0
AreKeyed key_of = AllByRecursion (λ r. IsKey (key_of r))
