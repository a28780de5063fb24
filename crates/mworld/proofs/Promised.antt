-- SPDX-License-Identifier: Apache-2.0
-- The promise of the lines of a history, and the replies of the accounts that reach one.
use Rattle.mworld.proofs.WorldWords.{◌≡◌, Bool, List, ap, ◌∙◌, subst, IsTrue, Settings, World, Event, Told, Tells, part}
use Rattle.mspec.specs.Node.{Text}
use Rattle.mmeaning.specs.Transition.{Reply}
use Rattle.mmeaning.specs.History.{History}
use Rattle.misolation.specs.Reach.{reachers}
use Rattle.misolation.specs.ReachLaws.{IsLeastClosed}
use Rattle.misolation.specs.Cut.{IsFit}
use Rattle.misolation.specs.Alone.{alone}
use Rattle.misolation.specs.HistoryLaws.{IsAlone}
use Rattle.misolation.proofs.Reaching.{reach_is_least_closed}
use Rattle.misolation.proofs.PartsAlone.{part_is_alone, promise_is_kept}
use Rattle.mworld.specs.Promises.{KeepsPromise}

pub promised : (settings : Settings) (world after : World) (lines : List (Event × Reply)) → History settings world lines after → KeepsPromise settings world lines
promised settings world after lines h globals opens a none =
    promise_is_kept settings a globals lines after (subst (λ (w : World). History settings w lines after) opens h) none

-- if a run is whole, the accounts that reach this one have their replies by the definitional interpreter
pub reaching_alone : (a : Text) (settings : Settings) (world after : World) (events : List Event) (told : List Told) (whole : Bool) → IsFit settings world.shared
    → (run : Tells a settings world events told whole after) → IsTrue whole → part (reachers settings a) settings run.lines ≡ alone (reachers settings a) settings world events
reaching_alone a settings world after events told whole fit run is =
    let least : IsLeastClosed settings a (reachers settings a) = reach_is_least_closed settings a in
    let law : IsAlone (reachers settings a) settings world after run.lines = part_is_alone (reachers settings a) settings world after run.lines least.closed fit run.history (run.failures.0 is) in
    law.lines ∙ ap (alone (reachers settings a) settings world) run.sent
