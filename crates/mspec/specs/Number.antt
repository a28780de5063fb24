-- SPDX-License-Identifier: Apache-2.0
-- Numbers, the rounding of exact fractions to them, and the arithmetic of the language.
--
-- Restates "Numeric data values" and "Arithmetic binary operators" of ISO/IEC 11756:1999. The standard leaves
-- the precision and the range of numbers to the implementor. Here a number is a whole count of units of
-- 10 ^ -18, it is below 10 ^ 18 in size, and it has at most as many significant digits as are kept: 18 in the
-- language. Arithmetic is exact on fractions, and its result is rounded once.
use Rattle.std.specs.Prelude.{◌≡◌, ℕ, zero, suc, ◌+◌, ◌-◌, ◌*◌, ◌/◌, ◌^◌, ◌<◌, Bool, true, false, cond, nat_le, Option, option_map, Some, None, ℤ, pos, negsuc}
use Rattle.std.specs.Prelude.{◌+ℤ◌, ◌-ℤ◌, ◌*ℤ◌, neg_ℤ, unsigned_abs, int_div}
use Rattle.std.specs.Int.{int_div_euclid}

-- the significant digits of a number of the language
abbrev pub significant_digits : ℕ
significant_digits = 18

-- u units of 10 ^ -18 are a number of at most `kept` significant digits
pub record IsNumber (kept : ℕ) (u : ℤ) : Type 0 where
  pub in_range : unsigned_abs u < 10 ^ 36
  pub few_digits : (m : ℕ) × (k : ℕ) × (m < 10 ^ kept) × (unsigned_abs u ≡ m * 10 ^ k)

-- n, or -n if the sign is `true`
abbrev pub signed : Bool → ℕ → ℤ
signed false n = pos n
signed true n = neg_ℤ (pos n)

abbrev pub is_below_zero : ℤ → Bool
is_below_zero (pos n) = false
is_below_zero (negsuc n) = true

-- how many digits p / q has before its point: the least d, up to `most`, with p / q < 10 ^ d
unfoldable pub digits_before : ℕ → ℕ → ℕ → ℕ
digits_before zero p q = 0
digits_before (suc d) p q = cond (nat_le (10 ^ d * q) p) (suc d) (digits_before d p q)

-- the unit to which p / q is rounded if `kept` digits are kept: a power of ten, at least 1
unfoldable pub rounding_unit : ℕ → ℕ → ℕ → ℕ
rounding_unit kept p q = 10 ^ (digits_before 36 p q - kept)

-- the multiple of g nearest to p / q; of two, the larger one
unfoldable pub nearest : ℕ → ℕ → ℕ → ℕ
nearest g p q = (2 * p + g * q) / (2 * (g * q)) * g

-- p / q in units of 10 ^ -18, rounded to `kept` significant digits; none from 10 ^ 18 on, before or after rounding
unfoldable pub round_size : ℕ → ℕ → ℕ → Option ℕ
round_size kept p q =
    let u = nearest (rounding_unit kept (p * 10 ^ 18) q) (p * 10 ^ 18) q in
    cond (nat_le (10 ^ 18 * q) p) None (cond (nat_le (10 ^ 36) u) None (Some u))

-- the same for a fraction p / q with a sign: its size is rounded
unfoldable pub round : ℕ → ℤ → ℕ → Option ℤ
round kept p q = option_map (signed (is_below_zero p)) (round_size kept (unsigned_abs p) q)

-- a with its sign turned if b is below zero: the numerator of a / b over the size of b
abbrev pub over_size : ℤ → ℤ → ℤ
over_size a (pos b) = a
over_size a (negsuc b) = neg_ℤ a

-- the greatest whole number that is at most a / b
abbrev pub floor_quotient : ℤ → ℤ → ℤ
floor_quotient a b = int_div_euclid (over_size a b) (over_size b b)

-- a - b * floor (a / b)
abbrev pub floor_remainder : ℤ → ℤ → ℤ
floor_remainder a b = a -ℤ b *ℤ floor_quotient a b

-- The operators `+ - * / \ #` on numbers, counted in units; none if the result is too large. The divisor of the
-- last three is not zero. `\` is the quotient without its fraction, and `#` is what the division with floor leaves.
abbrev pub sum_of : ℤ → ℤ → Option ℤ
sum_of a b = round significant_digits (a +ℤ b) (10 ^ 18)

abbrev pub difference_of : ℤ → ℤ → Option ℤ
difference_of a b = round significant_digits (a -ℤ b) (10 ^ 18)

abbrev pub product_of : ℤ → ℤ → Option ℤ
product_of a b = round significant_digits (a *ℤ b) (10 ^ 36)

abbrev pub quotient_of : ℤ → ℤ → Option ℤ
quotient_of a b = round significant_digits (over_size a b) (unsigned_abs b)

abbrev pub whole_quotient_of : ℤ → ℤ → Option ℤ
whole_quotient_of a b = round significant_digits (int_div a b) 1

abbrev pub remainder_of : ℤ → ℤ → Option ℤ
remainder_of a b = round significant_digits (floor_remainder a b) (10 ^ 18)
