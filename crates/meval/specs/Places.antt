-- SPDX-License-Identifier: Apache-2.0
-- References and places of the code, as the definitions have them.
use Rattle.std.specs.Prelude.{◌≡◌, Bool, true}
use Rattle.mspec.specs.Access.{Mode, may}
use Rattle.mspec.specs.Code.{Code, M6, M7}
use Rattle.mspec.specs.KeyBytes.{IsAccountName}
use Rattle.mspec.specs.Trees.{AreOrderSubscripts}
use Rattle.mmeaning.specs.Calls.{Standing}
use Rattle.mmeaning.specs.Variables as variables
use Rattle.mkey.specs.declared.walk.Data.{Data}
use Rattle.mgrant.specs.declared.mode.Mode as grant
use Rattle.mgrant.specs.declared.mode.Mode.TheVariants as mode
use Rattle.meval.specs.Held.{name_view}
use Rattle.meval.specs.declared.place.Pending.{Pending}
use Rattle.meval.specs.declared.place.Pending.TheVariants as pending
use Rattle.meval.specs.declared.place.Place.{Place}
use Rattle.meval.specs.declared.place.Place.TheVariants as place
use Rattle.meval.specs.declared.place.Walk.{Walk}
use Rattle.meval.specs.declared.place.Walk.TheVariants as walk

abbrev pub pending_view : Pending → variables.Evaluated
pending_view (pending.Local name values) = variables.of_local (name_view name) values
pending_view (pending.Global node) = variables.of_global node
pending_view (pending.Naked values) = variables.of_naked values

abbrev pub place_view : Place → variables.Place
place_view (place.Local name subscripts) = variables.at_local (name_view name) subscripts
place_view (place.Node key) = variables.at_node key

abbrev pub walk_view : Walk → variables.Place
walk_view (walk.Local name values) = variables.at_local (name_view name) values
walk_view (walk.Node node) = variables.at_node node

-- $ORDER may be asked of it
abbrev pub IsWalk : Walk → Type 0
IsWalk (walk.Local name values) = AreOrderSubscripts values
IsWalk (walk.Node node) = IsAccountName node.account × AreOrderSubscripts node.subscripts

-- what a place is wanted for, by the mode in which its use has to be allowed
abbrev pub use_of : grant.Mode → variables.Use
use_of mode.Read = variables.reading
use_of mode.Write = variables.writing

-- the line's account may use the global of a place in this mode
abbrev pub IsOpen : Standing → Mode → variables.Place → Type 0
IsOpen b m (variables.at_local name xs) = Unit {0}
IsOpen b m (variables.at_node n) = may b.settings b.account n.account n.name m ≡ true

-- the code of a read where there is no text
abbrev pub undefined_at : variables.Place → Code
undefined_at (variables.at_local name xs) = M6
undefined_at (variables.at_node n) = M7

abbrev pub status_view : Data → Bool × Bool
status_view d = (d.value, d.descendants)
