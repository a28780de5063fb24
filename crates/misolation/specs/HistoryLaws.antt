-- SPDX-License-Identifier: Apache-2.0
-- The laws of histories, as statements. The functions of src/ named after them carry them.
use Rattle.std.specs.Prelude.{◌≡◌, ◌↔◌, List, map}
use Rattle.std.specs.FinMap.{retain_keys}
use Rattle.mspec.specs.Node.{Text}
use Rattle.mspec.specs.Globals.{Globals}
use Rattle.mspec.specs.Access.{Settings}
use Rattle.mmeaning.specs.Transition.{World, Event, Reply}
use Rattle.mmeaning.specs.History.{History, opening, world_after, answered, NoneFailed}
use Rattle.misolation.specs.Reach.{Accounts, IsClosed, reachers}
use Rattle.misolation.specs.Cut.{cut_settings, cut_world, cut_events, part, IsFit}
use Rattle.misolation.specs.Alone.{alone, only}
use Rattle.misolation.specs.Trace.{Moment, Trace, lines_of, left_by, cut_trace}
use Rattle.misolation.specs.Alike.{AlikeWorlds}
use Rattle.misolation.specs.Agreement.{Run, Agree}

abbrev pub events_of : List (Event × Reply) → List Event
events_of es = map (λ e. e.0) es

-- the members' part of a history is a history over the cuts, whichever of all its transitions failed
abbrev pub PartIsHistory : Type 0
PartIsHistory =
    (s : Accounts) (settings : Settings) (world after : World) (es : List (Event × Reply)) → IsClosed settings s → IsFit settings world.shared →
    History settings world es after → History (cut_settings s settings) (cut_world s settings world) (part s settings es) (cut_world s settings after)

-- a history is what a trace says without the worlds between
abbrev pub HistoryHasTrace : Type 0
HistoryHasTrace =
    (settings : Settings) (world after : World) (es : List (Event × Reply)) →
    History settings world es after ↔ ((ms : List Moment) × Trace settings world ms × (lines_of ms ≡ es) × (left_by world ms ≡ after))

-- and the members' part of a trace, too, is a trace over the cuts: each world between is cut
pub record PartOfTrace (s : Accounts) (settings : Settings) (world : World) (ms : List Moment) : Type 0 where
  pub steps : Trace (cut_settings s settings) (cut_world s settings world) (cut_trace s settings ms)
  pub lines : lines_of (cut_trace s settings ms) ≡ part s settings (lines_of ms)
  pub left : left_by (cut_world s settings world) (cut_trace s settings ms) ≡ cut_world s settings (left_by world ms)

abbrev pub PartIsTrace : Type 0
PartIsTrace =
    (s : Accounts) (settings : Settings) (world : World) (ms : List Moment) → IsClosed settings s → IsFit settings world.shared →
    Trace settings world ms → PartOfTrace s settings world ms

-- the members' lines have the replies that they have alone, and leave what they leave alone
pub record IsAlone (s : Accounts) (settings : Settings) (world after : World) (es : List (Event × Reply)) : Type 0 where
  pub lines : part s settings es ≡ alone s settings world (events_of es)
  pub left : cut_world s settings after ≡ world_after (cut_settings s settings) (cut_world s settings world) (cut_events s settings (events_of es))

-- this holds if none of the members' transitions failed, whichever others did
abbrev pub PartIsAlone : Type 0
PartIsAlone =
    (s : Accounts) (settings : Settings) (world after : World) (es : List (Event × Reply)) → IsClosed settings s → IsFit settings world.shared →
    History settings world es after → NoneFailed (part s settings es) → IsAlone s settings world after es

-- and it always holds for the definitional interpreter, whose transitions never fail: run on all lines, it gives the members' lines the replies
-- that it gives them alone
abbrev pub InterpreterIsolates : Type 0
InterpreterIsolates =
    (s : Accounts) (settings : Settings) (world : World) (events : List Event) → IsClosed settings s → IsFit settings world.shared →
    part s settings (answered settings world events) ≡ alone s settings world events

-- The isolation theorem: for all settings, globals and lines, the replies at an account's terminals are those that it gets where there
-- is nothing but what reaches it, if no line of an account that reaches it failed.
abbrev pub Isolation : Type 0
Isolation =
    (settings : Settings) (a : Text) (globals : Globals) (es : List (Event × Reply)) (after : World) → History settings (opening globals) es after →
    NoneFailed (part (reachers settings a) settings es) →
    part (only a) settings es ≡ part (only a) settings (alone (reachers settings a) settings (opening globals) (events_of es))

-- the premises of these laws are met: no lock is held when the first line comes
abbrev pub OpeningIsFit : Type 0
OpeningIsFit = (settings : Settings) (globals : Globals) → IsFit settings (opening globals).shared

-- and histories keep them
abbrev pub HistoriesKeepFit : Type 0
HistoriesKeepFit =
    (settings : Settings) (world after : World) (es : List (Event × Reply)) → History settings world es after →
    IsFit settings world.shared → IsFit settings after.shared

-- what is left of an opening world is the opening world of the members' globals
abbrev pub OpeningIsCut : Type 0
OpeningIsCut =
    (s : Accounts) (settings : Settings) (globals : Globals) →
    cut_world s settings (opening globals) ≡ opening (retain_keys globals (λ n. s n.account))

-- the run's lines got these replies and left this world, and no line of an account that reaches `a` failed
pub record Answered (a : Text) (run : Run) (es : List (Event × Reply)) (after : World) : Type 0 where
  pub events : events_of es ≡ run.events
  pub history : History run.settings run.world es after
  pub none_failed : NoneFailed (part (reachers run.settings a) run.settings es)

-- the same lines with the same replies, at the terminals of the accounts that reach `a` and at its own; and what these are left with
-- is alike, and equal if it was equal before
pub record SameReplies (a : Text) (one two : Run) (es fs : List (Event × Reply)) (first second : World) : Type 0 where
  pub reaching : part (reachers one.settings a) one.settings es ≡ part (reachers two.settings a) two.settings fs
  pub own : part (only a) one.settings es ≡ part (only a) two.settings fs
  pub left : AlikeWorlds (cut_world (reachers one.settings a) one.settings first) (cut_world (reachers two.settings a) two.settings second)
  pub equal :
      cut_world (reachers one.settings a) one.settings one.world ≡ cut_world (reachers two.settings a) two.settings two.world →
      cut_world (reachers one.settings a) one.settings first ≡ cut_world (reachers two.settings a) two.settings second

-- two runs that agree for an account give it the same replies, however long each is and whatever else is in it
abbrev pub AgreeingReplies : Type 0
AgreeingReplies =
    (a : Text) (one two : Run) → Agree a one two → IsFit one.settings one.world.shared → IsFit two.settings two.world.shared →
    (es fs : List (Event × Reply)) (first second : World) → Answered a one es first → Answered a two fs second →
    SameReplies a one two es fs first second

-- ---- what an account may be promised

-- lines that are sent to a world which has globals alone
abbrev pub sent_to : Settings → Globals → List (Event × Reply) → Run
sent_to settings globals es = record { settings = settings; world = opening globals; events = events_of es }

-- The replies at the account's terminals are those of the definitional interpreter, run on the lines of the accounts that reach it, over
-- their globals and the grants between them alone. And any other world of which the same is said, and which agrees with this one on these,
-- gives it the same replies, whatever other accounts store, lock, run or exhaust in either.
pub record Promise (a : Text) (settings : Settings) (globals : Globals) (es : List (Event × Reply)) : Type 0 where
  pub alone : part (only a) settings es ≡ part (only a) settings (alone (reachers settings a) settings (opening globals) (events_of es))
  pub elsewhere :
      (settings' : Settings) (globals' : Globals) (es' : List (Event × Reply)) (after' : World) → Agree a (sent_to settings globals es) (sent_to settings' globals' es') →
      History settings' (opening globals') es' after' → NoneFailed (part (reachers settings' a) settings' es') →
      part (only a) settings es ≡ part (only a) settings' es'

-- The promise is kept: for all settings, all globals and all lines of all terminals in any order, if no line of an account that reaches
-- this one failed.
abbrev pub PromiseIsKept : Type 0
PromiseIsKept =
    (settings : Settings) (a : Text) (globals : Globals) (es : List (Event × Reply)) (after : World) → History settings (opening globals) es after →
    NoneFailed (part (reachers settings a) settings es) → Promise a settings globals es
