-- SPDX-License-Identifier: Apache-2.0
-- The limits of mserve, each by its name. If the standard has a limit, or leaves one open, that is said at the definition that uses it.
use Rattle.std.specs.Prelude.{ℕ}

-- ---- texts

-- characters of a text
abbrev pub max_text : ℕ
max_text = 4095

-- characters of a name, and of what comes after its first one
abbrev pub max_name : ℕ
max_name = 31

abbrev pub max_name_rest : ℕ
max_name_rest = 30

-- the place in a `$PIECE` that is assigned to
abbrev pub max_place : ℕ
max_place = 500

-- ---- nodes

-- characters of a subscript
abbrev pub max_subscript : ℕ
max_subscript = 255

-- subscripts of a node
abbrev pub max_subscripts : ℕ
max_subscripts = 15

-- characters of an account's name
abbrev pub max_account_name : ℕ
max_account_name = 16

-- ---- lines

-- characters of a line
abbrev pub max_line : ℕ
max_line = 255

-- bytes of a line of the wire: four digits, a space and a line
abbrev pub max_wire_line : ℕ
max_wire_line = 260

-- how deep a place may lie within a text: brackets, bars and operands of `@`
abbrev pub max_depth : ℕ
max_depth = 40

-- the levels that a line opens
abbrev pub max_levels : ℕ
max_levels = 256

-- the indirections under evaluation among them
abbrev pub max_indirections : ℕ
max_indirections = 32

-- how often a terminal holds a lock
abbrev pub max_count : ℕ
max_count = 1000000

-- how far $X and $Y count
abbrev pub max_position : ℕ
max_position = 4294967295

-- ---- settings

-- the number of a terminal
abbrev pub max_terminal : ℕ
max_terminal = 9999

-- the steps of a line
abbrev pub max_steps : ℕ
max_steps = 1000000

-- accounts, and grants
abbrev pub max_entries : ℕ
max_entries = 9999
