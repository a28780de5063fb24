-- SPDX-License-Identifier: Apache-2.0
-- The laws of transitions, as statements. The functions of src/ named after them carry them.
use Rattle.std.specs.Prelude.{◌≡◌, false, not, ◌||◌, IsTrue, List, [], ◌++◌, Option, Some, None, if◌then◌else◌}
use Rattle.std.specs.FinMap.{get}
use Rattle.mspec.specs.Access.{Account, Settings}
use Rattle.mgrammar.specs.Languages.{line_in}
use Rattle.mmeaning.specs.Shared.{act}
use Rattle.mmeaning.specs.Transition.{World, Event, Reply, session_or_new, plan_of, is_too_long, is_ascii, normal, FailedTransition, is_failure, Transition}
use Rattle.misolation.specs.Reach.{Accounts, IsClosed}
use Rattle.misolation.specs.Cut.{is_inside, cut_settings, cut_world, IsFit}
use Rattle.misolation.specs.PlanLaws.{Exchange, exchanges}
use Rattle.misolation.specs.Writes.{GlobalWrite, written, writes}

-- the operations that a line comes to, with their answers; none if it is refused before it is run
abbrev pub exchanges_by : Settings → Event → World → Option Account → List Exchange
exchanges_by settings e world None = []
exchanges_by settings e world (Some account) =
    if is_too_long e.text || not (is_ascii e.text) then []
    else exchanges (act settings e.terminal account.name) (plan_of e.terminal account (session_or_new (get world.sessions e.terminal)) (line_in account.language e.text)) world.shared

abbrev pub line_exchanges : Settings → Event → World → List Exchange
line_exchanges settings e world = exchanges_by settings e world (get settings.terminals e.terminal)

-- the writes of globals among them
abbrev pub writes_by : Settings → Event → World → Option Account → List GlobalWrite
writes_by settings e world None = []
writes_by settings e world (Some account) = writes settings account.name (exchanges_by settings e world (Some account))

abbrev pub line_writes : Settings → Event → World → List GlobalWrite
line_writes settings e world = writes_by settings e world (get settings.terminals e.terminal)

-- The globals that a transition leaves are the old ones after a first part of the line's writes: after all, if it did not fail.
pub record TransitionWrites (settings : Settings) (e : Event) (reply : Reply) (world after : World) : Type 0 where
  pub done : List GlobalWrite
  pub undone : List GlobalWrite
  pub all : line_writes settings e world ≡ done ++ undone
  pub globals : after.shared.globals ≡ written done world.shared.globals
  pub whole : is_failure reply.ending ≡ false → undone ≡ []

abbrev pub TransitionsWrite : Type 0
TransitionsWrite =
    (settings : Settings) (e : Event) (reply : Reply) (world after : World) → Transition settings e reply world after →
    TransitionWrites settings e reply world after

-- A transition at a member's terminal is that transition over the cuts, with the same reply. A normal one gives what it gives there, by the same
-- operations with the same answers, and by the same writes; a failed one is a failed one there.
pub record InsideTransition (s : Accounts) (settings : Settings) (e : Event) (world : World) : Type 0 where
  pub normal :
      normal (cut_settings s settings) e (cut_world s settings world) ≡
      ((normal settings e world).0, cut_world s settings (normal settings e world).1)
  pub exchanges : line_exchanges (cut_settings s settings) e (cut_world s settings world) ≡ line_exchanges settings e world
  pub writes : line_writes (cut_settings s settings) e (cut_world s settings world) ≡ line_writes settings e world
  pub failed :
      (after : World) → FailedTransition settings e world after →
      FailedTransition (cut_settings s settings) e (cut_world s settings world) (cut_world s settings after)
  pub transition :
      (reply : Reply) (after : World) → Transition settings e reply world after →
      Transition (cut_settings s settings) e reply (cut_world s settings world) (cut_world s settings after)

abbrev pub InsideTransitions : Type 0
InsideTransitions =
    (s : Accounts) (settings : Settings) (e : Event) (world : World) → IsClosed settings s → IsFit settings world.shared →
    IsTrue (is_inside s settings e.terminal) → InsideTransition s settings e world

-- a transition at any other terminal leaves the cut as it was
pub record OutsideTransition (s : Accounts) (settings : Settings) (e : Event) (world : World) : Type 0 where
  pub normal : cut_world s settings (normal settings e world).1 ≡ cut_world s settings world
  pub failed : (after : World) → FailedTransition settings e world after → cut_world s settings after ≡ cut_world s settings world
  pub transition : (reply : Reply) (after : World) → Transition settings e reply world after → cut_world s settings after ≡ cut_world s settings world

abbrev pub OutsideTransitions : Type 0
OutsideTransitions =
    (s : Accounts) (settings : Settings) (e : Event) (world : World) → IsClosed settings s →
    is_inside s settings e.terminal ≡ false → OutsideTransition s settings e world

abbrev pub TransitionsKeepFit : Type 0
TransitionsKeepFit =
    (settings : Settings) (e : Event) (reply : Reply) (world after : World) → Transition settings e reply world after →
    IsFit settings world.shared → IsFit settings after.shared

-- A transition at a member's terminal is that transition over the cuts, with the same reply and the same writes.
pub record TransitionWithin (s : Accounts) (settings : Settings) (e : Event) (reply : Reply) (world after : World) : Type 0 where
  pub transition : Transition (cut_settings s settings) e reply (cut_world s settings world) (cut_world s settings after)
  pub writes : line_writes (cut_settings s settings) e (cut_world s settings world) ≡ line_writes settings e world

-- Both laws for one transition, in one, as a call that makes transitions may state them of each. Only the inside law asks something of the locks.
pub record IsolatedTransition (s : Accounts) (settings : Settings) (e : Event) (reply : Reply) (world after : World) : Type 0 where
  pub inside : IsFit settings world.shared → IsTrue (is_inside s settings e.terminal) → TransitionWithin s settings e reply world after
  pub outside : is_inside s settings e.terminal ≡ false → cut_world s settings after ≡ cut_world s settings world
  pub writes : TransitionWrites settings e reply world after
  pub fit : IsFit settings world.shared → IsFit settings after.shared

abbrev pub TransitionsAreIsolated : Type 0
TransitionsAreIsolated =
    (settings : Settings) (e : Event) (reply : Reply) (world after : World) → Transition settings e reply world after →
    (s : Accounts) → IsClosed settings s → IsolatedTransition s settings e reply world after
