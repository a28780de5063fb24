-- SPDX-License-Identifier: Apache-2.0
-- Where the output of a terminal is: $X and $Y.
--
-- Restates "$X", "$Y" and "Write" of ISO/IEC 11756:1999: $X counts the characters that were written since the last line ended, whatever
-- they are, and $Y the lines that ended since the page began. Neither depends on the width or the length of a device, which there is none of.
use Rattle.std.specs.Prelude.{ℕ, ◌+◌, ◌-◌, min, ℤ, pos, negsuc, Bool, true, nat_le, if◌then◌else◌, ◌==◌, List, [], ◌∷◌, replicate}
use Rattle.mspec.specs.Limits.{max_text, max_position}

pub record Cursor : Type 0 where
  pub column : ℕ
  pub row : ℕ

-- where a terminal begins, and each page
abbrev pub home : Cursor
home = record { column = 0; row = 0 }

-- a count that goes on, up to its bound
abbrev pub position_after : ℕ → ℕ → ℕ
position_after count more = min (count + more) max_position

abbrev pub after_characters : ℕ → Cursor → Cursor
after_characters n c = record { column = position_after c.column n; row = c.row }

-- in an output, the end of a line is this byte, which no text has
abbrev pub line_end : ℕ
line_end = 255

abbrev pub form_feed : ℕ
form_feed = 12

-- a format of WRITE is a `!`, which is 33 and ends a line, or a `#`, which begins a page by a form feed
abbrev pub format_byte : ℕ → ℕ
format_byte f = if f == 33 then line_end else form_feed

abbrev pub after_format : ℕ → Cursor → Cursor
after_format f c = if f == 33 then record { column = 0; row = position_after c.row 1 } else home

abbrev pub after_formats : List ℕ → Cursor → Cursor
after_formats [] c = c
after_formats (f ∷ fs) c = after_formats fs (after_format f c)

-- whether WRITE goes to this column: a text has that many characters
abbrev pub is_column : ℤ → Bool
is_column (pos n) = nat_le n max_text
is_column (negsuc n) = true

-- what it writes for that, from another column on
abbrev pub spaces_to : ℤ → ℕ → List ℕ
spaces_to (pos n) column = replicate (n - column) 32
spaces_to (negsuc n) column = []
