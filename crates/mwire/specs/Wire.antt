-- SPDX-License-Identifier: Apache-2.0
-- The wire form: the lines of a byte stream, what becomes of each, and the bytes that answer them. It is mserve's own;
-- ISO/IEC 11756:1999 leaves to an implementation how a line comes to it.
use Rattle.std.specs.Prelude.{ℕ, ◌+◌, ◌/◌, ◌%◌, Bool, ◌==◌, ◌&&◌, ◌||◌, not, nat_lt, nat_le, List, [], ◌∷◌, ◌++◌, length, map, slice_index, if◌then◌else◌}
use Rattle.std.specs.Prelude.{codes}
use Rattle.std.specs.List.{list_all, before_first, after_first, position_or_len, slice_split, flat_map}
use Rattle.std.specs.Fmt.{decimal}
use Rattle.std.specs.Str.Lines.{lines, strip_carriage_return}
use Rattle.mspec.specs.Act.{Text}
use Rattle.mspec.specs.Code.{fault_text}
use Rattle.mspec.specs.Globals.{Globals}
use Rattle.mspec.specs.Limits.{max_wire_line}
use Rattle.mspec.specs.Literal.{is_digit, digits_after}
use Rattle.mmeaning.specs.LineMeaning.{line_end}
use Rattle.mmeaning.specs.Transition.{Settings, World, Event, Ending, Finished, Halted, Faulted, Reply, normal}
use Rattle.mmeaning.specs.History.{opening}

-- what becomes of a line
pub data WireLine : Type 0 where
  Ignored : WireLine
  TooLong : WireLine
  Unreadable : WireLine
  Runs : Event → WireLine

abbrev pub is_space : ℕ → Bool
is_space b = b == 32

-- 1 to 9999, without a leading zero
abbrev pub is_terminal : Text → Bool
is_terminal digits = list_all is_digit digits && nat_le 1 (length digits) && nat_le (length digits) 4 && not (slice_index digits 0 == 48)

-- a terminal, a space and a text, which may be empty
abbrev pub is_event : Text → Bool
is_event line = nat_lt (position_or_len is_space line) (length line) && is_terminal (before_first is_space line)

abbrev pub event_of : Text → Event
event_of line = record { terminal = digits_after 0 (before_first is_space line); text = after_first is_space line }

abbrev pub classify : Text → WireLine
classify line =
    if length line == 0 then Ignored else
    if nat_lt max_wire_line (length line) then TooLong else
    if is_event line then Runs (event_of line) else Unreadable

abbrev pub hex_digit : ℕ → ℕ
hex_digit n = if nat_lt n 10 then n + 48 else n + 55

-- a control character, a delete and a backslash go out as a backslash and two upper-case hexadecimal digits
abbrev pub is_escaped : ℕ → Bool
is_escaped c = nat_lt c 32 || c == 127 || c == 92

abbrev pub shown_character : ℕ → Text
shown_character c = if is_escaped c then 92 ∷ hex_digit (c / 16) ∷ hex_digit (c % 16) ∷ [] else c ∷ []

abbrev pub shown : Text → Text
shown text = flat_map shown_character text

-- the lines of an output, and the rest, which no line end ends, and which is not shown if it is empty
abbrev pub output_text : Text → List Text → Text
output_text terminal [] = []
output_text terminal ([] ∷ []) = []
output_text terminal ((c ∷ cs) ∷ []) = terminal ++ 45 ∷ shown (c ∷ cs) ++ 10 ∷ []
output_text terminal (line ∷ next ∷ more) = terminal ++ 58 ∷ shown line ++ 10 ∷ output_text terminal (next ∷ more)

abbrev pub is_line_end : ℕ → Bool
is_line_end c = c == line_end

abbrev pub ending_text : Ending → Text
ending_text Finished = codes "."
ending_text Halted = codes "."
ending_text (Faulted fault) = codes "!" ++ fault_text fault

-- the bytes of a terminal's reply
abbrev pub reply_text : ℕ → Reply → Text
reply_text terminal reply =
    output_text (decimal terminal) (slice_split is_line_end reply.out) ++ decimal terminal ++ ending_text reply.ending ++ 10 ∷ []

-- the bytes that answer a line that is too long, and those that answer one that is not readable
abbrev pub too_long_text : Text
too_long_text = codes "?!ZLINE" ++ 10 ∷ []

abbrev pub unreadable_text : Text
unreadable_text = codes "?!ZWIRE" ++ 10 ∷ []

-- the bytes that answer a line, and the world after it, by a normal transition
abbrev pub line_served : Settings → World → WireLine → Text × World
line_served settings world Ignored = ([], world)
line_served settings world TooLong = (too_long_text, world)
line_served settings world Unreadable = (unreadable_text, world)
line_served settings world (Runs e) = (reply_text e.terminal (normal settings e world).0, (normal settings e world).1)

abbrev pub lines_served : Settings → World → List Text → Text
lines_served settings world [] = []
lines_served settings world (line ∷ more) =
    (line_served settings world (classify line)).0 ++ lines_served settings (line_served settings world (classify line)).1 more

-- The bytes that answer a stream over some globals, by normal steps. A line feed ends a line, and a carriage return just before it goes with it;
-- an unfinished last line counts, and keeps its carriage return.
abbrev pub stream_served : Settings → Globals → Text → Text
stream_served settings globals bytes = lines_served settings (opening globals) (lines bytes)

abbrev pub before_events : WireLine → List Event → List Event
before_events Ignored events = events
before_events TooLong events = events
before_events Unreadable events = events
before_events (Runs e) events = e ∷ events

-- the events of a stream's lines
abbrev pub events_of : List Text → List Event
events_of [] = []
events_of (line ∷ more) = before_events (classify line) (events_of more)

-- the texts between the line feeds; no line feed ends the last of them
abbrev pub parts_of : Text → List Text
parts_of bytes = slice_split (λ b. b == 10) bytes

abbrev pub but_last : List Text → List Text
but_last [] = []
but_last (part ∷ []) = []
but_last (part ∷ next ∷ more) = part ∷ but_last (next ∷ more)

-- the lines that a line feed ends
abbrev pub finished_lines : Text → List Text
finished_lines bytes = map strip_carriage_return (but_last (parts_of bytes))
