-- SPDX-License-Identifier: Apache-2.0
-- The members' lines, run alone.
use Rattle.std.specs.Prelude.{List}
use Rattle.mspec.specs.Node.{Text}
use Rattle.mspec.specs.Trees.{text_eq}
use Rattle.mspec.specs.Access.{Settings}
use Rattle.mmeaning.specs.Transition.{World, Event, Reply}
use Rattle.mmeaning.specs.History.{answered}
use Rattle.misolation.specs.Reach.{Accounts}
use Rattle.misolation.specs.Cut.{cut_settings, cut_world, cut_events}

-- the members' lines with the replies of the definitional interpreter, where there is nothing but the members: their settings and
-- the grants between them, their globals, their sessions and locks, their lines
abbrev pub alone : Accounts → Settings → World → List Event → List (Event × Reply)
alone s settings world events = answered (cut_settings s settings) (cut_world s settings world) (cut_events s settings events)

-- one account and no other
abbrev pub only : Text → Accounts
only a = text_eq a
