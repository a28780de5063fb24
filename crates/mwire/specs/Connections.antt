-- SPDX-License-Identifier: Apache-2.0
-- What connections change in a world, one after another, and, if a listener tells who comes, which they are.
use Rattle.std.specs.Prelude.{◌≡◌, ◌<◌, ℕ, List, [], ◌∷◌, ◌++◌, length, map, Option, Some, Result, MatchResult}
use Rattle.std.specs.List.{All}
use Rattle.mspec.specs.Act.{Text}
use Rattle.mmeaning.specs.Transition.{Settings, Event, Reply}
use Rattle.mnodes.specs.declared.store.NodeStore.{Ghosts}
use Rattle.mworld.specs.Promises.{KeepsPromise}
use Rattle.mworld.specs.View.{Seen}
use Rattle.mwire.specs.Steps.{AreSteps}
use Rattle.mwire.specs.Serves.{Serves, lines_run}
use Rattle.mwire.specs.declared.fault.WireFault.{WireFault}
use Rattle.mwire.specs.declared.fault.AcceptFault.{AcceptFault}

-- A connection: what its reader has left and what its writer holds, as it comes and as it ends, if they tell; and what `serve` answered.
pub record Visit : Type 0 where
  pub left : Option Text
  pub left' : Option Text
  pub held : Option Text
  pub held' : Option Text
  pub result : Result (Unit {0}) WireFault

-- connections, one after another, lead from one world to the other, each as `serve` says
abbrev pub AreServed : {S : Type 0} → Ghosts S → Settings → List Visit → Seen → Seen → Type 0
AreServed g settings [] world after = after ≡ world
AreServed g settings (v ∷ more) world after = (between : Seen)
    × Serves g settings world between v.left v.left' v.held v.held' v.result × AreServed g settings more between after

-- the lines of all the connections that were run, in their order, with their replies
abbrev pub lines_of_each : {S : Type 0} (g : Ghosts S) (settings : Settings) (visits : List Visit) (world after : Seen) → AreServed g settings visits world after → List (Event × Reply)
lines_of_each g settings [] world after served = []
lines_of_each g settings (v ∷ more) world after served =
    lines_run g settings world v.left' served.1.read served.1.sent served.0 v.result served.1.outcome ++ lines_of_each g settings more served.0 after served.2

-- The connections are those of the peers that waited first: each reader had what its peer sends, each writer held nothing, and what it
-- holds at the end is what its peer was answered.
pub record AreOfPeers (visits : List Visit) (waiting waiting' answered answered' : List Text) : Type 0 where
  pub came : map Some waiting ≡ map (λ (v : Visit). v.left) visits ++ map Some waiting'
  pub fresh : All (λ (v : Visit). v.held ≡ Some []) visits
  pub went : map Some answered' ≡ map Some answered ++ map (λ (v : Visit). v.held') visits

-- `count` connections were served, and if the listener tells who comes, they are those of its peers. If there is no doubt of the store then, the
-- replies of all their lines together keep the promise.
pub record HasServedEach {S : Type 0} (g : Ghosts S) (settings : Settings) (count : ℕ) (world after : Seen)
    (tells : Type 0) (waiting waiting' answered answered' : List Text) : Type 0 where
  pub visits : List Visit
  pub many : length visits ≡ count
  pub served : AreServed g settings visits world after
  pub of_peers : tells → AreOfPeers visits waiting waiting' answered answered'
  pub steps : AreSteps g settings world (lines_of_each g settings visits world after served) after
  pub promise : after.doubt ≡ 0 → KeepsPromise settings world.world (lines_of_each g settings visits world after served)

-- All the connections were served; or fewer, until none could be accepted: if the listener tells who comes, until nobody waited.
abbrev pub ServesEach : {S : Type 0} → Ghosts S → Settings → ℕ → Seen → Seen
    → (tells : Type 0) → List Text → List Text → List Text → List Text → Result (Unit {0}) AcceptFault → Type 0
ServesEach g settings count world after tells waiting waiting' answered answered' result = MatchResult result
    (λ _. HasServedEach g settings count world after tells waiting waiting' answered answered')
    (λ _. (n : ℕ) × (n < count) × (tells → waiting' ≡ []) × HasServedEach g settings n world after tells waiting waiting' answered answered')
