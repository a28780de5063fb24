-- SPDX-License-Identifier: Apache-2.0
-- The laws of the wire form.
use Rattle.std.specs.Prelude.{◌≡◌, ◌<◌, ◌≤◌, ℕ, Bool, List, [], ◌∷◌, ◌++◌, length}
use Rattle.std.specs.List.{All, flat_map}
use Rattle.std.specs.Fmt.{decimal}
use Rattle.std.specs.Str.Lines.{lines, strip_carriage_return}
use Rattle.mspec.specs.Act.{Text}
use Rattle.mspec.specs.Limits.{max_terminal}
use Rattle.mspec.specs.Globals.{Globals}
use Rattle.mmeaning.specs.Transition.{Settings, World, Event, max_line}
use Rattle.mmeaning.specs.History.{opening, world_after, NoneFailed}
use Rattle.mnodes.specs.declared.store.NodeStore.{Ghosts}
use Rattle.mworld.specs.View.{Seen}
use Rattle.mwire.specs.Wire.{lines_served, stream_served, events_of}
use Rattle.mwire.specs.Answers.{LinesAnswered}
use Rattle.mwire.specs.Progress.{IsOpen}

-- the line of an event: its terminal in digits, a space and its text
abbrev pub line_of : Event → Text
line_of e = decimal e.terminal ++ 32 ∷ e.text

-- A line that a line feed ends can bring the event: its terminal is from 1 to 9999, and its text is not too long, has no line
-- feed and does not end in a carriage return.
pub record HasLine (e : Event) : Type 0 where
  pub positive : 0 < e.terminal
  pub at_most : e.terminal ≤ max_terminal
  pub short : length e.text ≤ max_line
  pub no_feed : IsOpen e.text
  pub no_return : strip_carriage_return e.text ≡ e.text

-- the lines of such events, each followed by a line feed, are a stream that has exactly these events
abbrev pub EventsHaveStream : Type 0
EventsHaveStream = (events : List Event) → All HasLine events → events_of (lines (flat_map (λ e. line_of e ++ 10 ∷ []) events)) ≡ events

-- If memory and the store sufficed for each line, the bytes that answer lines are those of the definitional interpreter,
-- and it leaves the same world
abbrev pub NormalAnswersAreServed : {S : Type 0} → Ghosts S → Type 0
NormalAnswersAreServed g = (settings : Settings) (world after : Seen) (all : List Text) (bytes : Text) (answers : LinesAnswered g settings world all bytes after)
    → after.doubt ≡ 0 → NoneFailed answers.trace → (bytes ≡ lines_served settings world.world all) × (after.world ≡ world_after settings world.world (events_of all))

-- so what answers a whole stream, from an opening world, is determined by the settings, the globals and the stream alone
abbrev pub NormalStreamsAreServed : {S : Type 0} → Ghosts S → Type 0
NormalStreamsAreServed g = (settings : Settings) (globals : Globals) (doubt : ℕ) (has_room : Bool) (after : Seen) (stream bytes : Text)
    (answers : LinesAnswered g settings (record { world = opening globals; doubt = doubt; has_room = has_room }) (lines stream) bytes after) → after.doubt ≡ 0 → NoneFailed answers.trace → bytes ≡ stream_served settings globals stream

-- and any lines have an answer, by normal steps, over a store of any type
abbrev pub LinesHaveAnswers : {S : Type 0} → Ghosts S → Type 0
LinesHaveAnswers g = (settings : Settings) (world : World) (doubt : ℕ) (has_room : Bool) (all : List Text)
    → LinesAnswered g settings (record { world = world; doubt = doubt; has_room = has_room }) all (lines_served settings world all)
    (record { world = world_after settings world (events_of all); doubt = doubt; has_room = has_room })
