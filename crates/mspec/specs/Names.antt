-- SPDX-License-Identifier: Apache-2.0
-- Characters and names.
--
-- Restates "Character set" and "name" of ISO/IEC 11756:1999.
use Rattle.std.specs.Prelude.{◌≡◌, ℕ, ◌-◌, ◌≤◌, Bool, true, ◌&&◌, ◌||◌, ◌==◌, nat_le, nat_lt, if◌then◌else◌, List, [], ◌∷◌, length}
use Rattle.mspec.specs.Limits.{max_name_rest}
use Rattle.mspec.specs.Literal.{is_digit}

-- `alpha` in either case
abbrev pub is_letter : ℕ → Bool
is_letter c = (nat_le 65 c && nat_le c 90) || (nat_le 97 c && nat_le c 122)

abbrev pub is_name_start : ℕ → Bool
is_name_start c = is_letter c || c == 37

abbrev pub is_name_rest : ℕ → Bool
is_name_rest c = is_letter c || is_digit c

-- of the character set of mserve: ASCII
abbrev pub is_character : ℕ → Bool
is_character c = nat_lt c 128

abbrev pub AllAre : (ℕ → Bool) → List ℕ → Type 0
AllAre p [] = Unit {0}
AllAre p (c ∷ cs) = (p c ≡ true) × AllAre p cs

abbrev pub upper_case : ℕ → ℕ
upper_case c = if nat_le 97 c && nat_le c 122 then c - 32 else c

-- `name`: of at most 31 characters, which the standard leaves open
abbrev pub IsName : List ℕ → Type 0
IsName [] = ⊥
IsName (c ∷ cs) = (is_name_start c ≡ true) × AllAre is_name_rest cs × (length cs ≤ max_name_rest)
