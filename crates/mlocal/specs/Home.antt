-- SPDX-License-Identifier: Apache-2.0
-- Scopes in a list, bottom first.
use Rattle.std.specs.Prelude.{◌≡◌, ℕ, ◌+◌, ◌-◌, ◌*◌, ◌%◌, ◌<◌, ◌≤◌, true, List, [], ◌∷◌, drop, length, slice_index, slice_index_or, Option, Some, None, ⊤}
use Rattle.mlocal.specs.declared.level.UnlinkedHome.{UnlinkedHome}
use Rattle.mlocal.specs.declared.level.UnlinkedHome.TheVariants.{Below, At, ByLink}
use Rattle.mlocal.specs.Named.{index_in}
use Rattle.mlocal.specs.Table.{NamedTrees}
use Rattle.mspec.specs.Node.{Text}
use Rattle.mspec.specs.Scopes.{Scope, has, emptied, known_below, passed, stays}

-- the slot of a name, by its first and last character and its length
abbrev pub slot : Text → ℕ
slot n = ((slice_index n 0 + 4 * slice_index n (length n - 1)) + length n) % 64

-- the place of a name's slot
abbrev pub place_at : List ℕ → Text → ℕ
place_at places n = slice_index places (slot n)

-- from this place on each scope passes a name on as it is
abbrev pub IsFree : ℕ → List Scope → Text → Type 0
IsFree place xs n = (k : ℕ) (d : Scope) → place ≤ k → k < length xs → passed (slice_index_or xs k d) n ≡ Some n

-- from the places of their slots on all names
abbrev pub AreFree : List ℕ → List Scope → Type 0
AreFree places xs = (n : Text) → IsFree (place_at places n) xs n

-- from this place on all names: these scopes have none by themselves, and no links
abbrev pub AreBare : ℕ → List Scope → Type 0
AreBare place xs = (n : Text) → IsFree place xs n

-- places that were raised to this one, but for the names that this holds of
abbrev pub IsRaised : (Text → Type 0) → ℕ → List ℕ → List ℕ → Type 0
IsRaised Q place old new = (n : Text) → place_at new n < place → (place_at new n ≡ place_at old n) × Q n

-- the place of the scope that a name's variable belongs to, none below all of these, and the name that it has there
abbrev pub IsHome : Text → List Scope → Option ℕ → Text → Type 0
IsHome n xs None m = known_below xs n ≡ Some m
IsHome n xs (Some i) m = (i < length xs) × ((d : Scope) → has (slice_index_or xs i d) m ≡ true) × (known_below (drop (i + 1) xs) n ≡ Some m)

-- the same as far as it shows without links, which are nowhere above the place; nothing is said where a level on the way has some
abbrev pub IsUnlinkedHome : Text → List Scope → UnlinkedHome → Type 0
IsUnlinkedHome n xs Below = IsHome n xs None n
IsUnlinkedHome n xs (At i k) = IsHome n xs (Some i) n × ((d : Scope) → k ≡ index_in (slice_index_or xs i d) n)
IsUnlinkedHome n xs ByLink = ⊤

-- the scope at the bottom, which has every name, with these trees
abbrev pub bottom_of : NamedTrees → Scope
bottom_of ts = record { names = []; others = Some []; trees = ts; links = [] }

-- how many scopes lie below the one at a place, if there is one at the bottom
abbrev pub scopes_below : Option ℕ → ℕ
scopes_below None = 0
scopes_below (Some i) = i + 1

-- KILL of all variables that can be seen, except those to which these names lead
abbrev pub killed_up : List Text → List Scope → List Scope
killed_up names [] = []
killed_up names (s ∷ above) = emptied (stays names above) s ∷ killed_up names above
