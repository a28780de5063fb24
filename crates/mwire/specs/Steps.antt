-- SPDX-License-Identifier: Apache-2.0
-- Lines that are steps of the definitions, as far as what is said of the store can be relied on.
use Rattle.std.specs.Prelude.{◌≡◌, false, IsTrue, List, [], ◌∷◌, ◌++◌}
use Rattle.mmeaning.specs.Transition.{Settings, World, Event, Reply, is_failure}
use Rattle.mmeaning.specs.History.{History}
use Rattle.mnodes.specs.Doubt.{Doubts, shut}
use Rattle.mnodes.specs.declared.store.NodeStore.{Ghosts}
use Rattle.mworld.specs.Sufficed.{StoreSufficed}
use Rattle.mworld.specs.View.{Seen}

-- The lines are steps up to one, at which a fault shut the store: its reply is a failure. Of those after it nothing is said.
pub record StepsUntilShut (settings : Settings) (world : World) (lines : List (Event × Reply)) : Type 0 where
  pub done : List (Event × Reply)
  pub last : Event × Reply
  pub others : List (Event × Reply)
  pub of_lines : lines ≡ done ++ last ∷ others
  pub between : World
  pub history : History settings world done between
  pub failed : IsTrue (is_failure last.1.ending)

-- no reply says that the store failed
abbrev pub StoreSufficedForEach : List (Event × Reply) → Type 0
StoreSufficedForEach [] = Unit {0}
StoreSufficedForEach (e ∷ es) = StoreSufficed e.1 × StoreSufficedForEach es

-- The lines lead from the one world to the other, each by a transition, if there is no doubt of the store at the end; and if a fault shut it
-- on the way, up to that line. If the store's type is steady and it has room at the end, no reply says that the store failed.
pub record AreSteps {S : Type 0} (g : Ghosts S) (settings : Settings) (world : Seen) (lines : List (Event × Reply)) (after : Seen) : Type 0 where
  pub history : after.doubt ≡ 0 → History settings world.world lines after.world
  pub doubt : Doubts g.sound world.doubt after.doubt world.has_room after.has_room false
  pub until_shut : world.doubt ≡ 0 → after.doubt ≡ shut → StepsUntilShut settings world.world lines
  pub sufficed : g.steady → IsTrue after.has_room → StoreSufficedForEach lines
