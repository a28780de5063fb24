-- SPDX-License-Identifier: Apache-2.0
-- The trees of variables by their names, as a part of a scope.
use Rattle.std.specs.Prelude.{◌≡◌, ℕ, ◌<◌, not, cond, nat_eq, List, slice_get, Option, Some, None, unwrap_or}
use Rattle.std.specs.FinMap.{FinMap, get, insert, retain_keys, empty}
use Rattle.std.specs.Ordering.{nat_cmp}
use Rattle.std.specs.Cmp.Lexicographic.{slice_cmp, pointwise}
use Rattle.indexmap.specs.IndexMap as index
use Rattle.indexmap.specs.IndexMap.{IndexMap}
use Rattle.mspec.specs.Node.{Text}
use Rattle.mspec.specs.Scopes.{is_bare}
use Rattle.mspec.specs.Trees.{Tree, text_eq, without}

abbrev pub NamedTrees : Type 0
NamedTrees = FinMap (slice_cmp nat_cmp) Tree

-- a name that has no tree yet has the empty one
abbrev pub tree_at : NamedTrees → Text → Tree
tree_at ts n = unwrap_or (get ts n) empty

-- a name whose tree has no text left is dropped
abbrev pub tidied_at : Text → NamedTrees → NamedTrees
tidied_at n ts = cond (is_bare (tree_at ts n)) (retain_keys ts (λ m. not (text_eq n m))) ts

-- a name that has no tree yet stays without one
abbrev pub kill_at : Text → List Text → Option Tree → NamedTrees → NamedTrees
kill_at n xs None ts = ts
kill_at n xs (Some t) ts = tidied_at n (insert ts n (without t xs))

-- the index of a name that a map has
abbrev pub StandsAt : {S : Type 0} → IndexMap Text Tree S → Text → ℕ → Type 0
StandsAt m n i = (i < index.index_map_len m) × (slice_get (index.keys m) i ≡ Some n) × (slice_get (index.values m) i ≡ index.get (pointwise nat_eq) m n)
