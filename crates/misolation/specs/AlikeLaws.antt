-- SPDX-License-Identifier: Apache-2.0
-- The laws of likeness, as statements. The functions of src/ named after them carry them.
use Rattle.std.specs.Prelude.{◌≡◌, List}
use Rattle.mspec.specs.Node.{Text}
use Rattle.mspec.specs.Access.{Settings}
use Rattle.mmeaning.specs.Transition.{World, Event, normal}
use Rattle.misolation.specs.Alike.{AlikeSettings, AlikeWorlds, AlikeTransitions, SameEntries}
use Rattle.misolation.specs.Agreement.{Agree}

-- a normal transition depends on the settings only through their terminals and through what is allowed
abbrev pub TransitionsByAllowed : Type 0
TransitionsByAllowed = (one two : Settings) (e : Event) (world : World) → AlikeSettings one two → normal one e world ≡ normal two e world

-- and on sessions as if each terminal without one had a new one
abbrev pub TransitionsBySessions : Type 0
TransitionsBySessions =
    (settings : Settings) (e : Event) (one two : World) → AlikeWorlds one two → AlikeTransitions (normal settings e one) (normal settings e two)

-- So runs agree for every account if they have the same lines, worlds alike, and settings of the same entries, however these are listed.
abbrev pub SameEntriesAgree : Type 0
SameEntriesAgree =
    (a : Text) (one two : Settings) (first second : World) (events : List Event) → SameEntries one two → AlikeWorlds first second →
    Agree a (record { settings = one; world = first; events = events }) (record { settings = two; world = second; events = events })
