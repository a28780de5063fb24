-- SPDX-License-Identifier: Apache-2.0
-- What is printed: the islands of settings, one per line.
use Rattle.std.specs.Prelude.{◌≡◌, ℕ, Bool, true, false, List, [], ◌∷◌, ◌++◌, map, All, count_by}
use Rattle.std.specs.List.{flat_map, list_any}
use Rattle.mspec.specs.Node.{Text}
use Rattle.mspec.specs.Trees.{text_eq}
use Rattle.mspec.specs.Access.{Settings, name_at}
use Rattle.mgrant.specs.Islands.{IsIslandAt}
use Rattle.mgrant.specs.Reading.{IsRead}
use Rattle.mislands.specs.Written.{Island}

-- the names of the accounts, in their order
abbrev pub names_of : Settings → List Text
names_of settings = map (λ a. a.name) settings.accounts

-- the names of some accounts, by their places
abbrev pub names_at : Settings → List ℕ → List Text
names_at settings places = map (name_at settings) places

abbrev pub named : Settings → List Island → List (List Text)
named settings islands = map (λ island. names_at settings island.items) islands

-- these are the names of the accounts of the island of an account, in their order
abbrev pub IsIslandBy : Settings → Text → List Text → Type 0
IsIslandBy settings a names = (places : List ℕ) × IsIslandAt settings a places × (names ≡ names_at settings places)

-- whether one of the islands has an account
abbrev pub is_among : Text → List (List Text) → Bool
is_among a islands = list_any (list_any (text_eq a)) islands

-- The islands of some accounts, in the order of the first accounts of each: an account adds its own, unless one before has it.
pub data AreIslands (settings : Settings) : List Text → List (List Text) → Type 0 where
  none : AreIslands settings [] []
  adds : (before : List Text) (islands : List (List Text)) (a : Text) (island : List Text) → AreIslands settings before islands → is_among a islands ≡ false
      → IsIslandBy settings a island → AreIslands settings (before ++ a ∷ []) (islands ++ island ∷ [])
  has : (before : List Text) (islands : List (List Text)) (a : Text) → AreIslands settings before islands → is_among a islands ≡ true
      → AreIslands settings (before ++ a ∷ []) islands

-- each account is in exactly one of the islands
abbrev pub EachInOne : Settings → List (List Text) → Type 0
EachInOne settings islands = All (λ a. count_by (list_any (text_eq a)) islands ≡ 1) (names_of settings)

-- the line of an island: its names, separated by a space, and a line feed
abbrev pub line_of : List Text → Text
line_of [] = []
line_of (a ∷ rest) = a ++ (flat_map (λ b. 32 ∷ b) rest ++ 10 ∷ [])

abbrev pub lines_of : List (List Text) → Text
lines_of islands = flat_map line_of islands

-- the bytes are a document without a fault, and the text has a line for each island of its settings
pub record IsListing (document text : Text) : Type 0 where
  pub settings : Settings
  pub read : IsRead document settings
  pub islands : List (List Text)
  pub listed : AreIslands settings (names_of settings) islands
  pub once : EachInOne settings islands
  pub is : text ≡ lines_of islands
