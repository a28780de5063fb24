-- SPDX-License-Identifier: Apache-2.0
-- What a run of lines tells an account.
use Rattle.std.specs.Prelude.{◌≡◌, ℕ, Bool, IsTrue, ◌↔◌, List, map}
use Rattle.mspec.specs.Node.{Text}
use Rattle.mspec.specs.Access.{Settings}
use Rattle.mmeaning.specs.Transition.{World, Event, Reply}
use Rattle.mmeaning.specs.History.{History, NoneFailed}
use Rattle.misolation.specs.Reach.{Accounts, reachers}
use Rattle.misolation.specs.Cut.{cut_settings, cut_world, cut_events, part}
use Rattle.misolation.specs.Alone.{only}
use Rattle.misolation.specs.HistoryLaws.{events_of}

-- a reply, and the terminal that it goes to
pub record Told : Type 0 where
  pub terminal : ℕ
  pub reply : Reply

abbrev pub told_by : Event × Reply → Told
told_by e = record { terminal = e.0.terminal; reply = e.1 }

-- the replies at an account's terminals, in their order
abbrev pub told_to : Text → Settings → List (Event × Reply) → List Told
told_to a settings es = map told_by (part (only a) settings es)

-- These are the replies at the account's terminals of a history of all the events, from the one world to the other; and it is whole
-- exactly if no transition failed in it at a terminal of an account that reaches `a`.
pub record Tells (a : Text) (settings : Settings) (world : World) (events : List Event) (told : List Told) (whole : Bool) (after : World) : Type 0 where
  pub lines : List (Event × Reply)
  pub sent : events_of lines ≡ events
  pub history : History settings world lines after
  pub replies : told_to a settings lines ≡ told
  pub failures : IsTrue whole ↔ NoneFailed (part (reachers settings a) settings lines)

-- the members' lines of a run, alone, tell the account this: over the cuts, and by the part of the run's own history that is theirs
pub record TellsPart (s : Accounts) (a : Text) (settings : Settings) (world : World) (events : List Event) (told : List Told) (whole : Bool) (after : World) (lines : List (Event × Reply)) : Type 0 where
  pub tells : Tells a (cut_settings s settings) (cut_world s settings world) (cut_events s settings events) told whole (cut_world s settings after)
  pub part_of : tells.lines ≡ part s settings lines
