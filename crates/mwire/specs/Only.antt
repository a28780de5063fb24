-- SPDX-License-Identifier: Apache-2.0
-- What `serve_only` does: a stream is read to its end, its events are run, and one account is shown its replies.
use Rattle.std.specs.Prelude.{◌≡◌, ◌⊎◌, ℕ, Bool, false, IsTrue, List, [], ◌++◌, MatchResult, Result, Option}
use Rattle.std.specs.List.{flat_map}
use Rattle.std.specs.Io.KnownBytes.{Appends, Consumes, IsAtEnd}
use Rattle.std.specs.Str.Lines.{lines}
use Rattle.mspec.specs.Act.{Text}
use Rattle.mspec.specs.Access.{name_at}
use Rattle.mmeaning.specs.Transition.{Event}
use Rattle.misolation.specs.Telling.{Told}
use Rattle.mnodes.specs.Doubt.{shut}
use Rattle.mnodes.specs.Over.{DoubtsOver}
use Rattle.mnodes.specs.declared.store.NodeStore.{Ghosts}
use Rattle.mworld.specs.declared.world.World.{World}
use Rattle.mworld.specs.Sufficed.{StoreSufficedForTold}
use Rattle.mworld.specs.View.{settings_of, world_of, doubt_of}
use Rattle.mworld.specs.Isolated.{IsTold, IsEquallyTold, IsToldEach, IsToldUntilShut, RanFirst, RanUntilShut}
use Rattle.mwire.specs.Wire.{events_of, reply_text}
use Rattle.mwire.specs.declared.fault.WireFault.{WireFault}
use Rattle.mwire.specs.declared.fault.WireFault.TheVariants.{Read, Write, Memory}

-- the bytes that show replies, each with its terminal
abbrev pub told_text : List Told → Text
told_text ts = flat_map (λ t. reply_text t.terminal t.reply) ts

-- The events were run, and the account was told these bytes, or a front of them: those of replies to its events, one each. If there is no
-- doubt of the store at the end, they are as they are for every closed set that has it, and, if they are whole, as the definitional
-- interpreter gives them to the reaching accounts alone. If a fault shut it on the way, so are those of the events before that. If the
-- store's type is steady and it has room at the end, none says that the store failed.
pub record RanOnly {S : Type 0} (g : Ghosts S) (old : World S g) (account : ℕ) (events : List Event) (bytes : Text) (whole : Bool) (new : World S g) : Type 0 where
  pub replies : List Told
  pub text : bytes ≡ told_text replies
  pub each : IsToldEach (name_at (settings_of old) account) (settings_of old) events replies
  pub told : doubt_of g new ≡ 0 → IsTold g old account events replies whole new
  pub alone : doubt_of g new ≡ 0 → IsEquallyTold g old account events replies whole
  pub until_shut : doubt_of g old ≡ 0 → doubt_of g new ≡ shut → IsToldUntilShut (name_at (settings_of old) account) (settings_of old) (world_of g old) events replies whole
  pub sufficed : g.steady → IsTrue (g.has_room new.store) → StoreSufficedForTold replies

-- all events were run, and a front of the bytes was sent
pub record RepliesCutShort {S : Type 0} (g : Ghosts S) (old : World S g) (account : ℕ) (events : List Event) (sent : Text) (new : World S g) : Type 0 where
  pub bytes : Text
  pub whole : Bool
  pub ran : RanOnly g old account events bytes whole new
  pub unsent : Text
  pub of_bytes : bytes ≡ sent ++ unsent

-- nothing was sent, and some first events were run, one transition each; if a fault shut the store on the way, up to the one at which it did
abbrev pub Unsent : {S : Type 0} (g : Ghosts S) → World S g → List Event → Text → World S g → Type 0
Unsent g old events sent new =
    (sent ≡ []) × (doubt_of g new ≡ 0 → RanFirst (settings_of old) (world_of g old) events (world_of g new))
    × (doubt_of g old ≡ 0 → doubt_of g new ≡ shut → RanUntilShut (settings_of old) (world_of g old) events)

-- how far it came if there was a fault
abbrev pub ServeOnlyCutShort : {S : Type 0} (g : Ghosts S) → World S g → ℕ → Option Text → List Event → Text → World S g → WireFault → Type 0
ServeOnlyCutShort g old account left events sent new Read = (sent ≡ []) × (new ≡ old)
ServeOnlyCutShort g old account left events sent new Write = IsAtEnd left × RepliesCutShort g old account events sent new
ServeOnlyCutShort g old account left events sent new Memory = Unsent g old events sent new ⊎ (IsAtEnd left × RepliesCutShort g old account events sent new)

-- the bytes `read` were read, and `sent` were sent: at the stream's end, those of the replies
pub record ServesOnly {S : Type 0} (g : Ghosts S) (old : World S g) (account : ℕ) (left left' held held' : Option Text) (result : Result Bool WireFault) (new : World S g) : Type 0 where
  pub read : Text
  pub consumed : Consumes left left' read
  pub sent : Text
  pub appended : Appends held held' sent
  pub doubt : DoubtsOver g old.store new.store false
  pub outcome : MatchResult result (λ whole. IsAtEnd left' × RanOnly g old account (events_of (lines read)) sent whole new) (ServeOnlyCutShort g old account left' (events_of (lines read)) sent new)
