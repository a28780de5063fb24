-- SPDX-License-Identifier: Apache-2.0
-- The characters of a set of classes, which has a bit for each of five kinds of characters. The kinds have no character in
-- common.
use Rattle.std.specs.Prelude.{ℕ, Bool, ◌&&◌, ◌==◌, if◌then◌else◌}
use Rattle.std.specs.Int.{bit_at}
use Rattle.mspec.specs.Literal.{is_digit}
use Rattle.mspec.specs.Names.{is_character}
use Rattle.mspec.specs.Pattern.{is_upper, is_lower, is_control}
use Rattle.mtext.specs.declared.classes.Classes.{Classes}

-- the kind of a character, by the place of its bit
abbrev pub kind_of : ℕ → ℕ
kind_of c =
    if is_digit c then 0
    else (if is_upper c then 1
    else (if is_lower c then 2
    else (if is_control c then 3 else 4)))

abbrev pub has_kind : ℕ → ℕ → Bool
has_kind kinds c = is_character c && (bit_at kinds (kind_of c) == 1)

abbrev pub is_in_set : Classes → ℕ → Bool
is_in_set set c = has_kind set.kinds c
