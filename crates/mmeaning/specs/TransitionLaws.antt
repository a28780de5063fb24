-- SPDX-License-Identifier: Apache-2.0
-- The laws of transitions, as statements. The functions of src/ named after them carry them.
use Rattle.std.specs.Prelude.{◌≡◌, ℕ, false, List, map}
use Rattle.mspec.specs.Plan.{Plan, perform, cut_short}
use Rattle.mspec.specs.Code.{Own, Halting}
use Rattle.mspec.specs.LockConflict.{released}
use Rattle.mspec.specs.Act.{Text, Outcome}
use Rattle.mmeaning.specs.LineMeaning.{Completion}
use Rattle.mmeaning.specs.Shared.{Shared, act}
use Rattle.mmeaning.specs.Transition.{Settings, Event, Reply, World, Faulted, normal, is_failure}
use Rattle.mmeaning.specs.History.{History, replies, world_after, answered, NoneFailed}

-- a normal transition is never answered as one that failed, so a reply says which of the two its transition was
abbrev pub NormalNeverFails : Type 0
NormalNeverFails = (settings : Settings) (e : Event) (world : World) → is_failure (normal settings e world).0.ending ≡ false

-- nor with the code of HALT
abbrev pub NoneShowsHalting : Type 0
NoneShowsHalting = (settings : Settings) (e : Event) (world : World) → (normal settings e world).0.ending ≡ Faulted (Own Halting) → ⊥

-- what a line does changes no lock of another terminal, whole or cut short
pub record PlanKeepsOthersLocks (settings : Settings) (terminal : ℕ) (me : Text) (p : Plan (Outcome Completion)) (w : Shared) : Type 0 where
  pub whole : released (perform (act settings terminal me) p w).1.locks terminal ≡ released w.locks terminal
  pub short : (n : ℕ) → released (cut_short (act settings terminal me) n p w).locks terminal ≡ released w.locks terminal

-- normal transitions, one after another, are a history of any events from any world
abbrev pub NormalTransitionsAreHistory : Type 0
NormalTransitionsAreHistory =
    (settings : Settings) (world : World) (events : List Event) →
    History settings world (answered settings world events) (world_after settings world events)

-- and if none of its transitions failed, a history has their replies and leaves their world
abbrev pub HistoryIsNormal : Type 0
HistoryIsNormal =
    (settings : Settings) (world after : World) (es : List (Event × Reply)) → History settings world es after → NoneFailed es →
    (map (λ e. e.1) es ≡ replies settings world (map (λ e. e.0) es)) × (after ≡ world_after settings world (map (λ e. e.0) es))
