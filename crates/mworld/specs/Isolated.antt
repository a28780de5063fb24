-- SPDX-License-Identifier: Apache-2.0
-- What a run of events tells an account.
use Rattle.std.specs.Prelude.{◌≡◌, ◌↔◌, ℕ, Bool, List, [], ◌∷◌, ◌++◌, map, take, IsTrue}
use Rattle.mspec.specs.Node.{Text}
use Rattle.mspec.specs.Access.{Settings, name_at}
use Rattle.mspec.specs.Flow.{Reaches}
use Rattle.mmeaning.specs.Transition as transition
use Rattle.mmeaning.specs.History.{History, NoneFailed}
use Rattle.misolation.specs.Reach.{Accounts, IsClosed, reachers}
use Rattle.misolation.specs.Cut.{part}
use Rattle.misolation.specs.Alone.{alone}
use Rattle.misolation.specs.HistoryLaws.{events_of}
use Rattle.misolation.specs.Telling as telling
use Rattle.misolation.specs.Telling.{Tells, TellsPart, told_to}
use Rattle.mnodes.specs.declared.store.NodeStore.{Ghosts}
use Rattle.mworld.specs.declared.isolated.Told.{Told}
use Rattle.mworld.specs.declared.isolated.Isolated.{Isolated}
use Rattle.mworld.specs.declared.world.World.{World}
use Rattle.mworld.specs.Promises.{KeepsPromise}
use Rattle.mworld.specs.View.{settings_of, world_of, reply_of}

-- the replies that were told, as those of the definitions
abbrev pub told_of : Told → telling.Told
told_of t = record { terminal = t.terminal; reply = reply_of t.reply }

abbrev pub replies_of : Isolated → List telling.Told
replies_of i = map told_of i.replies.items

-- These are the replies at the account's terminals of a history of all the events, from the one world to the other; and it is whole
-- exactly if no transition failed in it at a terminal of an account that reaches this one. For every closed set that has the account they
-- are those of the members' part of this history alone, from the one cut to the other: over the members' globals, sessions and locks,
-- and the grants between them. If it is whole, the replies that this history has at the terminals of the accounts that reach this one are
-- those of the definitional interpreter, run on these accounts' lines alone. And it keeps the promise.
pub record IsToldBetween (a : Text) (settings : Settings) (world : transition.World) (events : List transition.Event) (told : List telling.Told) (whole : Bool) (after : transition.World) : Type 0 where
  pub run : Tells a settings world events told whole after
  pub apart : (s : Accounts) → IsClosed settings s → IsTrue (s a) → TellsPart s a settings world events told whole after run.lines
  pub reaching : IsTrue whole → part (reachers settings a) settings run.lines ≡ alone (reachers settings a) settings world events
  pub promise : KeepsPromise settings world run.lines

-- the same, from the old world of the program to the new
abbrev pub IsTold : {S : Type 0} (g : Ghosts S) → World S g → ℕ → List transition.Event → List telling.Told → Bool → World S g → Type 0
IsTold g old account events told whole new =
    IsToldBetween (name_at (settings_of old) account) (settings_of old) (world_of g old) events told whole (world_of g new)

-- If it is whole, they are those of the definitional interpreter, run on the lines of the accounts that reach this one, over their
-- globals, their sessions and locks, and the grants between them alone.
abbrev pub IsEquallyToldFrom : Text → Settings → transition.World → List transition.Event → List telling.Told → Bool → Type 0
IsEquallyToldFrom a settings world events told whole = IsTrue whole → told ≡ told_to a settings (alone (reachers settings a) settings world events)

abbrev pub IsEquallyTold : {S : Type 0} (g : Ghosts S) → World S g → ℕ → List transition.Event → List telling.Told → Bool → Type 0
IsEquallyTold g old account events told whole = IsEquallyToldFrom (name_at (settings_of old) account) (settings_of old) (world_of g old) events told whole

-- Whatever the store does, they are replies to the account's events, one each and in their order.
pub record IsToldEach (a : Text) (settings : Settings) (events : List transition.Event) (told : List telling.Told) : Type 0 where
  pub lines : List (transition.Event × transition.Reply)
  pub sent : events_of lines ≡ events
  pub replies : told_to a settings lines ≡ told

-- One event more was run, with this reply: the account was told it if the event is at one of its terminals, and the run stays whole unless
-- it is a failure at a terminal of an account that reaches this one.
pub record TellsOne (a : Text) (settings : Settings) (e : transition.Event) (reply : transition.Reply) (told : List telling.Told) (whole : Bool) (told' : List telling.Told) (whole' : Bool) : Type 0 where
  pub replies : told' ≡ told ++ told_to a settings ((e, reply) ∷ [])
  pub failures : IsTrue whole' ↔ (IsTrue whole × NoneFailed (part (reachers settings a) settings ((e, reply) ∷ [])))

-- At one of the events a fault shut the store, and its reply is a failure. What was told of the events before it is what such a run
-- tells. After that came the reply to this event, if it is at a terminal of the account, and replies to later ones, of which no more is
-- said here. If the run is whole at its end, it was so before that event, which came from no account that reaches this one.
pub record IsToldUntilShut (a : Text) (settings : Settings) (world : transition.World) (events : List transition.Event) (told : List telling.Told) (whole : Bool) : Type 0 where
  pub done : List transition.Event
  pub last : transition.Event
  pub others : List transition.Event
  pub of_events : events ≡ done ++ last ∷ others
  pub reply : transition.Reply
  pub failed : IsTrue (transition.is_failure reply.ending)
  pub first : List telling.Told
  pub more : List telling.Told
  pub of_told : told ≡ first ++ told_to a settings ((last, reply) ∷ []) ++ more
  pub first_whole : Bool
  pub failures : IsTrue whole → IsTrue first_whole × NoneFailed (part (reachers settings a) settings ((last, reply) ∷ []))
  pub between : transition.World
  pub before : IsToldBetween a settings world done first first_whole between
  pub alone : IsEquallyToldFrom a settings world done first first_whole

-- some first events were run, one transition each
pub record RanFirst (settings : Settings) (world : transition.World) (events : List transition.Event) (after : transition.World) : Type 0 where
  pub count : ℕ
  pub lines : List (transition.Event × transition.Reply)
  pub sent : events_of lines ≡ take count events
  pub history : History settings world lines after

-- some first events were run, one transition each, and at the next one a fault shut the store, and its reply is a failure
pub record RanUntilShut (settings : Settings) (world : transition.World) (events : List transition.Event) : Type 0 where
  pub done : List (transition.Event × transition.Reply)
  pub last : transition.Event × transition.Reply
  pub others : List transition.Event
  pub of_events : events ≡ events_of done ++ last.0 ∷ others
  pub between : transition.World
  pub history : History settings world done between
  pub failed : IsTrue (transition.is_failure last.1.ending)

-- no line whose sender reaches the account failed here
abbrev pub IsUnseen : Settings → (sender a : Text) → transition.Reply → Type 0
IsUnseen settings sender a reply = IsTrue (transition.is_failure reply.ending) → Reaches settings sender a → ⊥
