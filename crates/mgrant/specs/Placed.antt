-- SPDX-License-Identifier: Apache-2.0
-- Grants between accounts that are known by their places.
use Rattle.std.specs.Prelude.{◌≡◌, ℕ, ◌==◌, ◌<◌, ◌≤◌, Bool, false, ◌&&◌, ◌||◌, List, length, slice_get, All, Option, Some, None}
use Rattle.std.specs.List.{list_any}
use Rattle.std.specs.HashMap.{HashMap, get}
use Rattle.std.specs.declared.hash.FoldHasher.{FoldHasher}
use Rattle.std.specs.declared.hash.BuildHasherDefault.{BuildHasherDefault}
use Rattle.mspec.specs.Node.{Text}
use Rattle.mspec.specs.Trees.{text_eq}
use Rattle.mspec.specs.Access as access
use Rattle.mgrant.specs.Words.{text_in}
use Rattle.mgrant.specs.declared.mode.Mode.{Mode}
use Rattle.mgrant.specs.declared.mode.Mode.TheVariants.{Read, Write}
use Rattle.mgrant.specs.declared.grants.Permit.{Permit}
use Rattle.mgrant.specs.declared.grants.Given.{Given}

-- a mode of the code as one of the definitions
abbrev pub mode_of : Mode → access.Mode
mode_of Read = access.Read
mode_of Write = access.Write

pub record Placed : Type 0 where
  pub from : ℕ
  pub to : ℕ
  pub global : Text
  pub mode : access.Mode

abbrev pub placed : List Text → Given → Placed
placed globals g = record { from = g.permit.from; to = g.permit.to; global = text_in globals g.permit.global; mode = mode_of g.mode }

-- the grant lets `me` use the global of the owner in this mode
abbrev pub lets_at : (me owner : ℕ) → Text → access.Mode → Placed → Bool
lets_at me owner name mode g = (owner == g.from && me == g.to) && (text_eq name g.global && access.allows g.mode mode)

abbrev pub same_permit : Permit → Permit → Bool
same_permit p q = p.from == q.from && (p.to == q.to && p.global == q.global)

abbrev pub Allowed : Type 0
Allowed = HashMap Permit Mode (BuildHasherDefault FoldHasher)

-- what was found allows the mode
abbrev pub allows_so : Option Mode → access.Mode → Bool
allows_so None asked = false
allows_so (Some m) asked = access.allows (mode_of m) asked

-- the map allows what one of the grants allows
pub record IsAllowance (gs : List Given) (allowed : Allowed) : Type 0 where
  pub at : (p : Permit) (asked : access.Mode) → allows_so (get same_permit allowed p) asked ≡ list_any (λ g. same_permit p g.permit && access.allows (mode_of g.mode) asked) gs

-- ---- flow

-- the grant makes x flow to y
abbrev pub carries_at : (x y : ℕ) → Placed → Bool
carries_at x y g = (x == g.from && y == g.to) || ((x == g.to && y == g.from) && access.allows g.mode access.Write)

-- the grant ties x and y: one flows to the other
abbrev pub ties_at : (x y : ℕ) → Placed → Bool
ties_at x y g = (x == g.from && y == g.to) || (x == g.to && y == g.from)

-- the globals' names have places, and the map allows what the grants allow
pub record AreKept (globals : List Text) (gs : List Given) (allowed : Allowed) : Type 0 where
  pub in_range : All (λ g. g.permit.global < length globals) gs
  pub allowance : IsAllowance gs allowed

-- a name has a place among texts, and may be a new one among them
pub record IsInterned (old : List Text) (name : Text) (r : List Text × ℕ) : Type 0 where
  pub here : slice_get r.0 r.1 ≡ Some name
  pub kept : (i : ℕ) → i < length old → slice_get r.0 i ≡ slice_get old i
  pub grown : length old ≤ length r.0
