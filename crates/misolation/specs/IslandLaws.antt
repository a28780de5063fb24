-- SPDX-License-Identifier: Apache-2.0
-- The laws of islands, as statements. The functions of src/ named after them carry them.
use Rattle.std.specs.Prelude.{◌≡◌, ℕ, ◌↔◌, List}
use Rattle.mspec.specs.Globals.{Globals}
use Rattle.mspec.specs.Access.{Settings}
use Rattle.mspec.specs.Flow.{IsIsland}
use Rattle.mmeaning.specs.Transition.{World, Event, Reply}
use Rattle.mmeaning.specs.History.{History, opening, world_after, answered, NoneFailed}
use Rattle.misolation.specs.Reach.{Accounts}
use Rattle.misolation.specs.Cut.{cut_settings, cut_world, cut_events, part, IsFit}
use Rattle.misolation.specs.HistoryLaws.{events_of}
use Rattle.misolation.specs.Islands.{globals_of, Placement, on, KeepsTies, RunsApart, LaidTogether}

-- The law of islands, for one island: the replies at its terminals are those of a run of its own lines over its own settings and globals, and its
-- part of the globals at the end is what that run leaves.
pub record IsOwnRun (s : Accounts) (settings : Settings) (globals : Globals) (es : List (Event × Reply)) (after : World) : Type 0 where
  pub lines : part s settings es ≡ answered (cut_settings s settings) (opening (globals_of s globals)) (cut_events s settings (events_of es))
  pub left : globals_of s after.shared.globals ≡ (world_after (cut_settings s settings) (opening (globals_of s globals)) (cut_events s settings (events_of es))).shared.globals

-- this holds if none of its lines failed, whatever else was run
abbrev pub IslandRunsAlone : Type 0
IslandRunsAlone =
    (s : Accounts) (settings : Settings) (globals : Globals) (es : List (Event × Reply)) (after : World) → IsIsland settings s →
    History settings (opening globals) es after → NoneFailed (part s settings es) → IsOwnRun s settings globals es after

-- accounts may be placed on machines exactly if each machine's are an island
abbrev pub MachinesAreIslands : Type 0
MachinesAreIslands = (settings : Settings) (place : Placement) → KeepsTies settings place ↔ ((m : ℕ) → IsIsland settings (on place m))

-- The whole apart: a history of the whole is one of each machine, whichever transitions failed, and what is left is what the machines are left with.
pub record ComesApart (place : Placement) (settings : Settings) (world after : World) (es : List (Event × Reply)) : Type 0 where
  pub apart : RunsApart place settings world es (λ m. cut_world (on place m) settings after)
  pub laid : LaidTogether place settings (λ m. cut_world (on place m) settings after) after

abbrev pub WholeComesApart : Type 0
WholeComesApart =
    (place : Placement) (settings : Settings) (world after : World) (es : List (Event × Reply)) → KeepsTies settings place → IsFit settings world.shared →
    History settings world es after → ComesApart place settings world after es

-- And together: lines in any order are a history of the whole if each machine's lines are a history of that machine, and what it leaves
-- is what the machines are left with, laid together.
abbrev pub MachinesRunTogether : Type 0
MachinesRunTogether =
    (place : Placement) (settings : Settings) (world : World) (es : List (Event × Reply)) (left : ℕ → World) → KeepsTies settings place → IsFit settings world.shared →
    RunsApart place settings world es left → (after : World) × History settings world es after × LaidTogether place settings left after

-- A move: the set of accounts has run on one machine and continues on another, among whatever other accounts there are, with its globals and
-- without its sessions and locks. Then all its lines get what they get on a machine of its own, on which sessions ended at that moment.
pub record Moved (s : Accounts) (here there : Settings) (world between opened after : World) (es fs : List (Event × Reply)) : Type 0 where
  pub before : History (cut_settings s here) (cut_world s here world) (part s here es) (cut_world s here between)
  pub behind : History (cut_settings s here) (opening (globals_of s between.shared.globals)) (part s there fs) (cut_world s there after)

abbrev pub MovedIslandGoesOn : Type 0
MovedIslandGoesOn =
    (s : Accounts) (here there : Settings) (world between opened after : World) (es fs : List (Event × Reply)) → IsIsland here s → IsIsland there s →
    cut_settings s here ≡ cut_settings s there → IsFit here world.shared → IsFit there opened.shared → History here world es between →
    cut_world s there opened ≡ opening (globals_of s between.shared.globals) → History there opened fs after → Moved s here there world between opened after es fs
