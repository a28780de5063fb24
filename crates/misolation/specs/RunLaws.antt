-- SPDX-License-Identifier: Apache-2.0
-- The laws of runs, as statements. The functions of src/ named after them carry them.
use Rattle.std.specs.Prelude.{◌≡◌, Bool, true, IsTrue, ◌↔◌, List, [], ◌∷◌, ◌++◌}
use Rattle.mspec.specs.Node.{Text}
use Rattle.mspec.specs.Access.{Settings}
use Rattle.mmeaning.specs.Transition.{World, Event, Reply, Transition}
use Rattle.mmeaning.specs.History.{NoneFailed}
use Rattle.misolation.specs.Reach.{Accounts, IsClosed, reachers}
use Rattle.misolation.specs.Cut.{part, IsFit}
use Rattle.misolation.specs.Alone.{alone}
use Rattle.misolation.specs.Agreement.{Run, Agree}
use Rattle.misolation.specs.Telling.{Told, told_to, Tells, TellsPart}

-- ---- how a run is made

-- if nothing was run, nothing is shown
abbrev pub NothingIsTold : Type 0
NothingIsTold = (a : Text) (settings : Settings) (world : World) → Tells a settings world [] [] true world

-- a run goes on by one transition: if that is at a terminal of the account, its reply is shown, and the run stays whole if the transition
-- did not fail at a terminal of an account that reaches `a`
abbrev pub TellsOn : Type 0
TellsOn =
    (a : Text) (settings : Settings) (world between after : World) (events : List Event) (told : List Told) (whole : Bool) →
    Tells a settings world events told whole between → (e : Event) (reply : Reply) → Transition settings e reply between after →
    (more : Bool) → (IsTrue more ↔ (IsTrue whole × NoneFailed (part (reachers settings a) settings ((e, reply) ∷ [])))) →
    Tells a settings world (events ++ e ∷ []) (told ++ told_to a settings ((e, reply) ∷ [])) more after

-- ---- what it tells

-- Told apart: whatever a run tells an account, and whether it is whole, the members' part of its history tells it, over the cuts to any
-- closed set that has the account, whichever of their transitions failed.
abbrev pub ToldApart : Type 0
ToldApart =
    (s : Accounts) (a : Text) (settings : Settings) (world after : World) (events : List Event) (told : List Told) (whole : Bool) →
    IsClosed settings s → IsTrue (s a) → IsFit settings world.shared → (run : Tells a settings world events told whole after) →
    TellsPart s a settings world events told whole after run.lines

-- Equally told: a whole run tells the account what the definitional interpreter answers to the lines of the accounts that reach it,
-- over their globals, their sessions and locks, and the grants between them alone.
abbrev pub EquallyTold : Type 0
EquallyTold =
    (a : Text) (settings : Settings) (world after : World) (events : List Event) (told : List Told) →
    IsFit settings world.shared → Tells a settings world events told true after →
    told ≡ told_to a settings (alone (reachers settings a) settings world events)

-- Told the same: two runs that agree for an account, and are whole, tell it the same, however long each is and whatever else is in it.
abbrev pub ToldTheSame : Type 0
ToldTheSame =
    (a : Text) (one two : Run) → Agree a one two → IsFit one.settings one.world.shared → IsFit two.settings two.world.shared →
    (first second : World) (told told' : List Told) →
    Tells a one.settings one.world one.events told true first → Tells a two.settings two.world two.events told' true second →
    told ≡ told'
