-- SPDX-License-Identifier: Apache-2.0
-- Flow: whose actions can show at whom. An account's values show where it grants reading; what the receiver of a write grant
-- stores and locks shows at the giver too.
use Rattle.std.specs.Prelude.{◌≡◌, Bool, IsTrue, ◌&&◌, ◌||◌}
use Rattle.std.specs.List.{list_any}
use Rattle.mspec.specs.Node.{Text}
use Rattle.mspec.specs.Trees.{text_eq}
use Rattle.mspec.specs.Access.{Settings, Grant, allows, Write}

-- the grant makes x flow to y: x grants y anything, or y grants x write
abbrev pub carries : Text → Text → Grant → Bool
carries x y g = (text_eq x g.from && text_eq y g.to) || ((text_eq x g.to && text_eq y g.from) && allows g.mode Write)

abbrev pub flows : Settings → Text → Text → Bool
flows settings x y = list_any (carries x y) settings.grants

-- x flows to y
abbrev pub Flows : Settings → Text → Text → Type 0
Flows settings x y = IsTrue (flows settings x y)

-- A set of accounts that is closed in both directions: if one of two accounts flows to the other, both are members or neither is.
abbrev pub IsIsland : Settings → (Text → Bool) → Type 0
IsIsland settings s = (x y : Text) → Flows settings x y → s x ≡ s y

-- x reaches y: a chain of such steps leads from x to y, or x is y
pub data Reaches (settings : Settings) : Text → Text → Type 0 where
  itself : (x : Text) → Reaches settings x x
  through : {x y z : Text} → Flows settings x y → Reaches settings y z → Reaches settings x z
