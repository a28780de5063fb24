-- SPDX-License-Identifier: Apache-2.0
-- Numbers of examples: values, sums and texts of numbers that are known, as rules by which `simp` computes them. To unfold the words
-- themselves would open them too where a number is not known yet, which takes long.
use Rattle.mspec.proofs.SpecWords.{◌≡◌, ℕ, zero, suc, ◌+◌, ◌-◌, ◌*◌, cond, List, [], ◌∷◌, ◌++◌, length, Option, Some, None, refl, Bool, true, pos, negsuc}
use Rattle.mspec.proofs.SpecWords.{option_map, unsigned_abs, nat_le, codes, digits_after, significant_digits, signed, is_below_zero, digits_before}
use Rattle.mspec.proofs.SpecWords.{rounding_unit, nearest, round_size, round, front_digits, after_digits, fraction_digits, after_fraction, front_exponent}
use Rattle.mspec.proofs.SpecWords.{literal_size, is_negated, after_signs, numeric_value, size_text, canonical_value, ◌^◌, ◌/◌}
use Rattle.std.specs.Fmt.{digits}

-- one name for all that numbers unfold: an example that is computed unfolds it
unfoldable pub computes : Bool
unfolding canonical_value digits digits_before literal_size nearest numeric_value round round_size rounding_unit size_text
computes = true

-- ---- the words once more, each open

abbrev before : ℕ → ℕ → ℕ → ℕ
before zero p q = 0
before (suc d) p q = cond (nat_le (10 ^ d * q) p) (suc d) (before d p q)

abbrev near : ℕ → ℕ → ℕ → ℕ
near g p q = (2 * p + g * q) / (2 * (g * q)) * g

abbrev size : ℕ → ℕ → Option ℕ
size p q =
    let u = near (10 ^ (before 36 (p * 10 ^ 18) q - significant_digits)) (p * 10 ^ 18) q in
    cond (nat_le (10 ^ 18 * q) p) None (cond (nat_le (10 ^ 36) u) None (Some u))

abbrev literal : List ℕ → Option ℕ
literal s =
    let rest = after_digits s in
    let e = front_exponent (after_fraction rest) in
    size
    (digits_after 0 (front_digits s ++ fraction_digits rest) * 10 ^ cond e.0 0 e.1)
    (10 ^ (length (fraction_digits rest) + cond e.0 e.1 0))

-- ---- where the text or the number is known

pub value_none : numeric_value significant_digits [] ≡ Some (pos 0)
unfolding numeric_value literal_size round_size nearest rounding_unit digits_before
value_none = refl

pub value_some : (c : ℕ) (s : List ℕ) → numeric_value significant_digits (c ∷ s) ≡ option_map (signed (is_negated (c ∷ s))) (literal (after_signs (c ∷ s)))
unfolding numeric_value literal_size round_size nearest rounding_unit digits_before
value_some c s = refl

pub round_pos : (p q : ℕ) → round significant_digits (pos p) q ≡ option_map pos (size p q)
unfolding round round_size nearest rounding_unit digits_before
round_pos p q = refl

pub round_neg : (p q : ℕ) → round significant_digits (negsuc p) q ≡ option_map (signed (is_below_zero (negsuc p))) (size (unsigned_abs (negsuc p)) q)
unfolding round round_size nearest rounding_unit digits_before
round_neg p q = refl

-- ---- texts of the numbers that examples have often

pub text_0 : size_text (0 * 10 ^ 18) ≡ codes "0"
unfolding size_text digits
text_0 = refl

pub text_1 : size_text (1 * 10 ^ 18) ≡ codes "1"
unfolding size_text digits
text_1 = refl

pub text_2 : size_text (2 * 10 ^ 18) ≡ codes "2"
unfolding size_text digits
text_2 = refl

pub text_3 : size_text (3 * 10 ^ 18) ≡ codes "3"
unfolding size_text digits
text_3 = refl

pub text_4 : size_text (4 * 10 ^ 18) ≡ codes "4"
unfolding size_text digits
text_4 = refl

pub text_5 : size_text (5 * 10 ^ 18) ≡ codes "5"
unfolding size_text digits
text_5 = refl

pub text_6 : size_text (6 * 10 ^ 18) ≡ codes "6"
unfolding size_text digits
text_6 = refl

pub text_7 : size_text (7 * 10 ^ 18) ≡ codes "7"
unfolding size_text digits
text_7 = refl

pub text_8 : size_text (8 * 10 ^ 18) ≡ codes "8"
unfolding size_text digits
text_8 = refl

pub text_9 : size_text (9 * 10 ^ 18) ≡ codes "9"
unfolding size_text digits
text_9 = refl

pub text_10 : size_text (10 * 10 ^ 18) ≡ codes "10"
unfolding size_text digits
text_10 = refl

pub text_11 : size_text (11 * 10 ^ 18) ≡ codes "11"
unfolding size_text digits
text_11 = refl

pub text_16 : size_text (16 * 10 ^ 18) ≡ codes "16"
unfolding size_text digits
text_16 = refl

pub text_9E17 : size_text (9 * 10 ^ 35) ≡ codes "900000000000000000"
unfolding size_text digits
text_9E17 = refl

pub ruleset computed_numbers = (value_none, value_some, round_pos, round_neg, text_0, text_1, text_2, text_3, text_4, text_5, text_6, text_7, text_8, text_9, text_10, text_11, text_16, text_9E17)
