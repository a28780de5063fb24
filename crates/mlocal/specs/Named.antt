-- SPDX-License-Identifier: Apache-2.0
-- The names of a scope with their variables, of which the first of a name counts.
use Rattle.std.specs.Prelude.{◌≡◌, ℕ, Bool, true, false, not, cond, map, List, [], ◌∷◌, Option, Some, None}
use Rattle.std.specs.FinMap.{insert, retain_keys, empty}
use Rattle.std.specs.List.{position_or_len}
use Rattle.std.specs.Map.{keys_of}
use Rattle.mlocal.specs.Table.{NamedTrees}
use Rattle.mspec.specs.Node.{Text}
use Rattle.mspec.specs.Scopes.{Scope, has, is_bare}
use Rattle.mspec.specs.Trees.{Tree, text_eq}

-- the trees of variables by their names, over those of other names; a variable without a text counts as none
abbrev pub trees_of : List (Text × Tree) → NamedTrees → NamedTrees
trees_of [] ts = ts
trees_of (e ∷ es) ts = cond (is_bare e.1) (retain_keys (trees_of es ts) (λ m. not (text_eq e.0 m))) (insert (trees_of es ts) e.0 e.1)

-- the index of a name, or how many names there are
abbrev pub index_in : Scope → Text → ℕ
index_in s n = position_or_len (text_eq n) s.names

-- the index of a name that a scope has by itself
abbrev pub IsFound : Scope → Text → Option ℕ → Type 0
IsFound s n None = has s n ≡ false
IsFound s n (Some i) = (has s n ≡ true) × (i ≡ index_in s n)

-- the variables of the names that are not spared have no text
abbrev pub spared : (Text → Bool) → List (Text × Tree) → List (Text × Tree)
spared p es = map (λ e. (e.0, cond (p e.0) e.1 empty)) es

abbrev pub without_texts : List Text → List (Text × Tree)
without_texts ns = map (λ n. (n, empty)) ns

-- entries that have no text
abbrev pub AreFresh : List (Text × Tree) → Type 0
AreFresh es = without_texts (keys_of es) ≡ es

-- the scope of a level with these names and links
abbrev pub bound_scope : List (Text × Tree) → List (Text × Text) → Scope
bound_scope es links = record { names = keys_of es; others = None; trees = trees_of es empty; links = links }
