-- SPDX-License-Identifier: Apache-2.0
-- The functions between characters and their codes.
--
-- Restates "$ASCII" and "$CHAR" of ISO/IEC 11756:1999. Places are counted from 1, and the place of $ASCII may be left out.
use Rattle.std.specs.Prelude.{ℕ, zero, suc, ℤ, pos, negsuc, Bool, false, nat_le, List, [], ◌∷◌, slice_get, Option, Some, None, unwrap_or, Result, Err}
use Rattle.std.specs.Prelude.{if◌then◌else◌}
use Rattle.std.specs.List.{list_any, flat_map}
use Rattle.mspec.specs.Code.{Code, Zchar}
use Rattle.mspec.specs.TextFunctions.{made}

-- the character at a place
abbrev pub character_at : List ℕ → ℤ → Option ℕ
character_at s (pos zero) = None
character_at s (pos (suc n)) = slice_get s n
character_at s (negsuc n) = None

-- -1 if there is no character
abbrev pub code_or_minus_one : Option ℕ → ℤ
code_or_minus_one None = negsuc 0
code_or_minus_one (Some c) = pos c

-- $ASCII
abbrev pub ascii_of : List ℕ → Option ℤ → ℤ
ascii_of s place = code_or_minus_one (character_at s (unwrap_or place (pos 1)))

-- a number above the codes of ASCII
abbrev pub is_over_ascii : ℤ → Bool
is_over_ascii (pos n) = nat_le 128 n
is_over_ascii (negsuc n) = false

-- the character of a code; a number below 0 gives none
abbrev pub character_of : ℤ → List ℕ
character_of (pos n) = n ∷ []
character_of (negsuc n) = []

-- $CHAR
abbrev pub char_of : List ℤ → Result (List ℕ) Code
char_of ns = if list_any is_over_ascii ns then Err Zchar else made (flat_map character_of ns)
