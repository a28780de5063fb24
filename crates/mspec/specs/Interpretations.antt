-- SPDX-License-Identifier: Apache-2.0
-- A number as a whole number, and as a truth.
--
-- Restates "Integer interpretation" and "Truth-value interpretation" of ISO/IEC 11756:1999. Numbers are counted in units of
-- 10 ^ -18.
use Rattle.std.specs.Prelude.{◌^◌, Bool, true, false, not, List, [], ◌∷◌, ℕ, ℤ, pos, ◌*ℤ◌, int_div}
use Rattle.std.specs.Ordering.{int_eq, int_cmp, is_eq}

-- the number without its fraction
abbrev pub whole_part : ℤ → ℤ
whole_part u = int_div u (pos (10 ^ 18))

-- it has no fraction
abbrev pub is_whole : ℤ → Bool
is_whole u = is_eq (int_cmp u (whole_part u *ℤ pos (10 ^ 18)))

-- a number is true if it is not 0
abbrev pub is_true : ℤ → Bool
is_true u = not (int_eq u (pos 0))

-- the text of a truth: 1 or 0
abbrev pub truth_text : Bool → List ℕ
truth_text true = 49 ∷ []
truth_text false = 48 ∷ []
