-- SPDX-License-Identifier: Apache-2.0
-- When two worlds and what is sent to them agree for an account: on all that reaches it.
use Rattle.std.specs.Prelude.{◌≡◌, List}
use Rattle.mspec.specs.Node.{Text}
use Rattle.mspec.specs.Access.{Settings}
use Rattle.mmeaning.specs.Transition.{World, Event}
use Rattle.misolation.specs.Reach.{reachers}
use Rattle.misolation.specs.Cut.{cut_settings, cut_world, cut_events}
use Rattle.misolation.specs.Alike.{AlikeSettings, AlikeWorlds}

-- where lines are run, and which
pub record Run : Type 0 where
  pub settings : Settings
  pub world : World
  pub events : List Event

-- The same accounts reach `a`. For these both have the same terminals, steps and languages, and allow the same between them; the same globals and
-- locks; the same sessions, where one that is as new counts as none; and the same lines. All else may differ.
pub record Agree (a : Text) (one two : Run) : Type 0 where
  pub reaching : (x : Text) → reachers one.settings a x ≡ reachers two.settings a x
  pub settings : AlikeSettings (cut_settings (reachers one.settings a) one.settings) (cut_settings (reachers two.settings a) two.settings)
  pub world : AlikeWorlds (cut_world (reachers one.settings a) one.settings one.world) (cut_world (reachers two.settings a) two.settings two.world)
  pub events : cut_events (reachers one.settings a) one.settings one.events ≡ cut_events (reachers two.settings a) two.settings two.events
