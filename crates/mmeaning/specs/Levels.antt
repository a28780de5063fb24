-- SPDX-License-Identifier: Apache-2.0
-- Levels: where a line stands among those of its routine, where DO and GOTO lead, and how a level closes.
--
-- Restates "Routine execution", "DO", "GOTO" and "XECUTE" of ISO/IEC 11756:1999. A level is that of a terminal's line, or one that a
-- DO or an XECUTE opened. It keeps the lines of its routine as they were when a DO or a GOTO named it.
use Rattle.std.specs.Prelude.{ℕ, ◌+◌, ◌==◌, nat_lt, Bool, true, false, List, [], map, position, slice_get, Option, Some, None}
use Rattle.mspec.specs.Access.{Read}
use Rattle.mspec.specs.Globals.{routines_of}
use Rattle.mspec.specs.Trees.{text_eq}
use Rattle.mspec.specs.Scopes.{without_level}
use Rattle.mspec.specs.Code.{M13, Zdepth, Zlevel}
use Rattle.mspec.specs.Plan.{Routine}
use Rattle.mspec.specs.Act.{Text, Act, ◌>>=◌, ◌>>◌, give, read_so, in_language, unless, ask, with_locals, set_test}
use Rattle.mgrammar.specs.Grammar.{RoutineTree, own_routine, shared_routine, EntryTree, at_label, at_label_in, at_routine, CommandTree, LineTree}
use Rattle.mgrammar.specs.RoutineLine.{BodyTree, short, spaced_out, label_of, dots_of}
use Rattle.mmeaning.specs.Expression.{Depth, indirected}
use Rattle.mmeaning.specs.Variables.{allowed}
pub use Rattle.mmeaning.specs.Expression.{max_levels}

-- the lines that labels are sought in; the place of the line that comes next; and how many dots the level's lines have. A terminal's text
-- has no lines, and none comes after it or after a text of XECUTE, until a GOTO leads to one.
pub record Level : Type 0 where
  pub copy : List Text
  pub next : Option ℕ
  pub dots : ℕ

-- where a line stands: how deep, and in which level
pub record Position : Type 0 where
  pub depth : Depth
  pub level : Level

-- a line from outside, at the only level that is open
abbrev pub top_level : Position
top_level = record {
  depth = record { levels = 0; indirections = 0; wants_value = false };
  level = record { copy = []; next = None; dots = 0 };
}

-- ---- where DO and GOTO lead

-- a line of a routine: all its lines, and its place among them
pub record Target : Type 0 where
  pub copy : List Text
  pub line : ℕ

-- the lines of a routine: of the account's own, or of another account's, which that one has to let it read
abbrev pub lines_of_routine : RoutineTree → Act (List Text)
lines_of_routine (own_routine name) = ask (Routine None name)
lines_of_routine (shared_routine account name) = allowed Read (routines_of account) >> ask (Routine (Some account) name)

-- a routine that is named is read; a label alone is sought in the level's own lines
abbrev pub lines_of_entry : List Text → EntryTree → Act (List Text)
lines_of_entry copy (at_label label) = give copy
lines_of_entry copy (at_label_in label routine) = lines_of_routine routine
lines_of_entry copy (at_routine routine) = lines_of_routine routine

abbrev pub is_label : Text → Option Text → Bool
is_label label None = false
is_label label (Some name) = text_eq label name

-- whether in this language a line matches the entry, which means the first such line
abbrev pub is_entry : (language : ℕ) → EntryTree → Text → Bool
is_entry l (at_label label) line = is_label label (label_of l line)
is_entry l (at_label_in label routine) line = is_label label (label_of l line)
is_entry l (at_routine routine) line = true

abbrev pub has_dots : (language : ℕ) → ℕ → Option Text → Bool
has_dots l dots None = false
has_dots l dots (Some line) = dots_of l line == dots

-- the line that the entry means: there has to be one, and it has to have as many dots as the level
abbrev pub target : List Text → ℕ → EntryTree → Act Target
target copy dots e = do
  lines ← lines_of_entry copy e
  n ← read_so M13 (λ l. position (is_entry l e) lines)
  in_language (λ l. unless Zlevel (has_dots l dots (slice_get lines n)))
  give (record { copy = lines; line = n })

-- ---- levels that are opened

abbrev pub a_level_free : Depth → Act (Unit {0})
a_level_free d = unless Zdepth (nat_lt d.levels max_levels)

-- within an indirection, whose arguments are done in the level that it is in
abbrev pub within_indirection : Position → Position
within_indirection p = record { depth = indirected p.depth; level = p.level }

-- ---- how a level closes

-- not at all, as the outermost one does, which goes with its line; its scope goes; and besides that, $TEST is again what it was; and,
-- of a function, besides both there is a value
pub data Closing : Type 0 where
  stays : Closing
  leaves : Closing
  restores : Bool → Closing
  answers : Bool → Closing

-- whether a value is wanted of a level that closes so
abbrev pub wants : Closing → Bool
wants stays = false
wants leaves = false
wants (restores b) = false
wants (answers b) = true

-- one level deeper
abbrev pub deeper : Closing → Position → Level → Position
deeper c p l = record { depth = record { levels = p.depth.levels + 1; indirections = p.depth.indirections; wants_value = wants c }; level = l }

abbrev pub closing : Closing → Act (Unit {0})
closing stays = give tt
closing leaves = with_locals without_level
closing (restores b) = with_locals without_level >> set_test b
closing (answers b) = with_locals without_level >> set_test b

-- ---- commands of a line

abbrev pub commands_of : LineTree → List CommandTree
commands_of l = map (λ c. c.0) l.commands

abbrev pub commands_in : BodyTree → List CommandTree
commands_in (short comment) = []
commands_in (spaced_out dots l) = commands_of l
