-- SPDX-License-Identifier: Apache-2.0
-- What the code's value says becomes of a line.
use Rattle.std.specs.Prelude.{ℕ, nat_lt, length, Option, Some, None, if◌then◌else◌}
use Rattle.std.specs.List.{position_or_len}
use Rattle.mspec.specs.Act.{Text}
use Rattle.mspec.specs.Literal.{digits_after}
use Rattle.mwire.specs.declared.wire_line.WireLine.{WireLine as CodeWireLine}
use Rattle.mwire.specs.declared.wire_line.WireLine.TheVariants.{Ignored as CodeIgnored, TooLong as CodeTooLong, Unreadable as CodeUnreadable, Runs as CodeRuns}
use Rattle.mwire.specs.Wire.{WireLine, Ignored, TooLong, Unreadable, Runs, is_space, is_terminal}

abbrev pub wire_line_in : CodeWireLine → WireLine
wire_line_in CodeIgnored = Ignored
wire_line_in CodeTooLong = TooLong
wire_line_in CodeUnreadable = Unreadable
wire_line_in (CodeRuns terminal text) = Runs (record { terminal = terminal; text = text.now })

-- the terminal that a text names
abbrev pub terminal_read : Text → Option ℕ
terminal_read digits = if is_terminal digits then Some (digits_after 0 digits) else None

-- where the first space of a line is
abbrev pub space_read : Text → Option ℕ
space_read line = if nat_lt (position_or_len is_space line) (length line) then Some (position_or_len is_space line) else None
