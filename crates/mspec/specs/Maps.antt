-- SPDX-License-Identifier: Apache-2.0
-- Maps of the code as finite maps.
use Rattle.std.specs.Prelude.{map}
use Rattle.std.specs.declared.cmp.Ordering.{Ordering}
use Rattle.std.specs.BTreeMap.{BTreeMap}
use Rattle.std.specs.HashMap.{HashMap}
use Rattle.std.specs.FinMap.{FinMap, from_entries}

-- its values are read by `view`
abbrev pub map_of : {K X V : Type 0} {R : K → K → Ordering} → (X → V) → BTreeMap K X → FinMap R V
map_of view m = from_entries (map (λ e. (e.0, view e.1)) m.entries)

-- the same for a map without an order
abbrev pub hash_map_of : {K X S V : Type 0} {R : K → K → Ordering} → (X → V) → HashMap K X S → FinMap R V
hash_map_of view m = from_entries (map (λ e. (e.0, view e.1)) m.entries)
