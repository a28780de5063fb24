-- SPDX-License-Identifier: Apache-2.0
-- What is done in a world over a store of some type.
use Rattle.std.specs.Prelude.{◌≡◌, ℕ, Bool, List, Option, Some, None, Result, Ok, Err}
use Rattle.mspec.specs.Act.{Text}
use Rattle.mnodes.specs.declared.store.NodeStore.{Ghosts}
use Rattle.mworld.specs.declared.world.World.{World}
use Rattle.mworld.specs.View.{settings_of, seen_of}
use Rattle.mwire.specs.Connections.{ServesEach}
use Rattle.mwire.specs.Only.{ServesOnly}
use Rattle.mwire.specs.Serves.{Serves}
use Rattle.mwire.specs.Watched.{inner_of}
use Rattle.mwire.specs.declared.watched.Watched.{Watched}
use Rattle.mwire.specs.declared.fault.AcceptFault.{AcceptFault}
use Rattle.mhost.specs.Faults.{AreUntouched, DeviceFailed}
use Rattle.mhost.specs.declared.fault.RunFault.{RunFault}
use Rattle.mhost.specs.declared.fault.RunFault.TheVariants as early
use Rattle.mhost.specs.declared.tasks.Task.{Task}
use Rattle.mhost.specs.declared.tasks.Task.TheVariants as task

-- what a port tells: what those send who wait there, or nothing if it is taken; and what those were answered who went
pub record AtPorts : Type 0 where
  pub waiting : ℕ → Option (List Text)
  pub answered : ℕ → List Text

-- Connections were served at a port, and if it tells who comes, to the peers who waited there.
pub record ServesAt {S : Type 0} (g : Ghosts S) (old new : World S g) (tells : Type 0) (ports ports' : AtPorts) (number count : ℕ) (result : Result (Unit {0}) AcceptFault) : Type 0 where
  pub waiting : List Text
  pub waiting' : List Text
  pub answered : List Text
  pub answered' : List Text
  pub came : tells → (ports.waiting number ≡ Some waiting) × (ports.answered number ≡ answered)
  pub went : tells → (ports'.waiting number ≡ Some waiting') × (ports'.answered number ≡ answered')
  pub serves : ServesEach g (settings_of old) count (seen_of g old) (seen_of g new) tells waiting waiting' answered answered' result

module _ {S : Type 0} (g : Ghosts S) (old new : World S g) where
  -- a stream was answered, to its end or up to a fault of the wire
  abbrev pub Answers : {I O : Type 0} → (I → Option Text) → (O → Option Text) → Watched I → Watched I → Watched O → Watched O → Result (Unit {0}) RunFault → Type 0
  Answers left held input input' output output' (Ok done) =
      Serves g (settings_of old) (seen_of g old) (seen_of g new) (left (inner_of input)) (left (inner_of input')) (held (inner_of output)) (held (inner_of output')) (Ok done)
  Answers left held input input' output output' (Err (early.Wire fault)) =
      Serves g (settings_of old) (seen_of g old) (seen_of g new) (left (inner_of input)) (left (inner_of input')) (held (inner_of output)) (held (inner_of output')) (Err fault)
      × DeviceFailed input input' output output' fault
  Answers left held input input' output output' (Err other) = ⊥

  -- the same, but only the account at this place was told of its replies
  abbrev pub AnswersOnly : {I O : Type 0} → (I → Option Text) → (O → Option Text) → Watched I → Watched I → Watched O → Watched O → ℕ → Result (Unit {0}) RunFault → Type 0
  AnswersOnly left held input input' output output' place (Ok done) =
      (whole : Bool) × ServesOnly g old place (left (inner_of input)) (left (inner_of input')) (held (inner_of output)) (held (inner_of output')) (Ok whole) new
  AnswersOnly left held input input' output output' place (Err (early.Wire fault)) =
      ServesOnly g old place (left (inner_of input)) (left (inner_of input')) (held (inner_of output)) (held (inner_of output')) (Err fault) new
      × DeviceFailed input input' output output' fault
  AnswersOnly left held input input' output output' place (Err other) = ⊥

  -- connections were served, all of them or until none could be accepted; or the port cannot be listened at, and the world is as it was
  abbrev pub ServesPort : (tells : Type 0) (ports ports' : AtPorts) (number count : ℕ) → Result (Unit {0}) RunFault → Type 0
  ServesPort tells ports ports' number count (Ok done) = ServesAt g old new tells ports ports' number count (Ok done)
  ServesPort tells ports ports' number count (Err early.Accept) = (fault : AcceptFault) × ServesAt g old new tells ports ports' number count (Err fault)
  ServesPort tells ports ports' number count (Err early.Listen) = (new ≡ old) × (tells → ports.waiting number ≡ None)
  ServesPort tells ports ports' number count (Err other) = ⊥

  -- **what is asked for is done**, to its end or up to a fault
  abbrev pub Does : {I O : Type 0} → (I → Option Text) → (O → Option Text) → (tells : Type 0) (ports ports' : AtPorts) → Watched I → Watched I → Watched O → Watched O → Task → Result (Unit {0}) RunFault → Type 0
  Does left held tells ports ports' input input' output output' task.Answer result = Answers left held input input' output output' result
  Does left held tells ports ports' input input' output output' (task.Tell place) result = AnswersOnly left held input input' output output' place result
  Does left held tells ports ports' input input' output output' (task.Serve number count) result =
      AreUntouched input input' output output' × ServesPort tells ports ports' number count result
