-- SPDX-License-Identifier: Apache-2.0
-- What answers the lines of a stream: the bytes, and a history of the lines' events, over a store of some type. That the lines
-- are steps is said as long as there is no doubt of the store; that no reply says that the store failed, if its type is steady and it has
-- room at the end.
use Rattle.std.specs.Prelude.{◌≡◌, not, IsTrue, List, [], ◌∷◌, ◌++◌, map}
use Rattle.mspec.specs.Act.{Text}
use Rattle.mmeaning.specs.Transition.{Settings, Event, Reply, Transition, is_failure}
use Rattle.mnodes.specs.declared.store.NodeStore.{Ghosts}
use Rattle.mnodes.specs.Doubt.{Doubts}
use Rattle.mworld.specs.Sufficed.{StoreSufficed}
use Rattle.mworld.specs.View.{Seen}
use Rattle.mwire.specs.Steps.{AreSteps}
use Rattle.mwire.specs.Wire.{WireLine, Ignored, TooLong, Unreadable, Runs, classify, reply_text, too_long_text, unreadable_text, events_of}

-- the bytes that answer a line of this wire_line, whose reply is the first of these if it is run
abbrev pub line_text : WireLine → List Reply → Text
line_text Ignored replies = []
line_text TooLong replies = too_long_text
line_text Unreadable replies = unreadable_text
line_text (Runs e) [] = []
line_text (Runs e) (reply ∷ more) = reply_text e.terminal reply

-- the replies of the lines after it
abbrev pub replies_behind : WireLine → List Reply → List Reply
replies_behind Ignored replies = replies
replies_behind TooLong replies = replies
replies_behind Unreadable replies = replies
replies_behind (Runs e) [] = []
replies_behind (Runs e) (reply ∷ more) = more

-- the bytes that answer lines, in their order, given the replies of those that are run
abbrev pub answer_text : List Text → List Reply → Text
answer_text [] replies = []
answer_text (line ∷ more) replies = line_text (classify line) replies ++ answer_text more (replies_behind (classify line) replies)

-- the lines are answered by these bytes, which a history of their events gives
pub record LinesAnswered {S : Type 0} (g : Ghosts S) (settings : Settings) (world : Seen) (all : List Text) (bytes : Text) (after : Seen) : Type 0 where
  pub trace : List (Event × Reply)
  pub events : map (λ e. e.0) trace ≡ events_of all
  pub text : bytes ≡ answer_text all (map (λ e. e.1) trace)
  pub steps : AreSteps g settings world trace after

-- a line that is run is answered by these bytes: those of a reply, by a transition
pub record RunAnswered {S : Type 0} (g : Ghosts S) (settings : Settings) (world : Seen) (e : Event) (bytes : Text) (after : Seen) : Type 0 where
  pub reply : Reply
  pub text : bytes ≡ reply_text e.terminal reply
  pub transition : after.doubt ≡ 0 → Transition settings e reply world.world after.world
  pub doubt : Doubts g.sound world.doubt after.doubt world.has_room after.has_room (not (is_failure reply.ending))
  pub sufficed : g.steady → IsTrue after.has_room → StoreSufficed reply

-- a line of this wire_line is answered by these bytes
abbrev pub WireLineAnswered : {S : Type 0} → Ghosts S → Settings → Seen → WireLine → Text → Seen → Type 0
WireLineAnswered g settings world Ignored bytes after = (bytes ≡ []) × (after ≡ world)
WireLineAnswered g settings world TooLong bytes after = (bytes ≡ too_long_text) × (after ≡ world)
WireLineAnswered g settings world Unreadable bytes after = (bytes ≡ unreadable_text) × (after ≡ world)
WireLineAnswered g settings world (Runs e) bytes after = RunAnswered g settings world e bytes after

pub record LineAnswered {S : Type 0} (g : Ghosts S) (settings : Settings) (world : Seen) (line bytes : Text) (after : Seen) : Type 0 where
  pub by_wire_line : WireLineAnswered g settings world (classify line) bytes after

-- The lines are answered up to a last one. This one was answered too, but only a front of its bytes, perhaps the whole,
-- went out; the others were not run.
pub record AnswersCutShort {S : Type 0} (g : Ghosts S) (settings : Settings) (world : Seen) (all : List Text) (bytes : Text) (after : Seen) : Type 0 where
  pub done : List Text
  pub last : Text
  pub others : List Text
  pub of_all : all ≡ done ++ last ∷ others
  pub whole : Text
  pub between : Seen
  pub answered : LinesAnswered g settings world done whole between
  pub answer : Text
  pub last_answered : LineAnswered g settings between last answer after
  pub part : Text
  pub unsent : Text
  pub of_answer : answer ≡ part ++ unsent
  pub sent : bytes ≡ whole ++ part
