-- SPDX-License-Identifier: Apache-2.0
-- The definitions of numbers on examples, as proved equations.
use Rattle.mspec.proofs.SpecWords.{◌≡◌, ℕ, ◌+◌, ◌*◌, ◌^◌, ◌≤◌, List, ◌∷◌, Some, None, ◌∙◌, ap, arith, lit≤, rules, pow-le-pow_right, zero-mul, ℤ, pos, codes}
use Rattle.mspec.proofs.SpecWords.{option_map, option_and_then, round, round_size, significant_digits, signed, sum_of, product_of, quotient_of}
use Rattle.mspec.proofs.SpecWords.{whole_quotient_of, remainder_of, digits_after, front_digits, signed_digits, numeric_value, literal_size, number_text}
use Rattle.mspec.proofs.SpecWords.{size_text, false, Option, cond}
use Rattle.mspec.proofs.Powers.{ten_pos}
use Rattle.mspec.proofs.Rounding.{round_zero, round_small}
use Rattle.mspec.proofs.ComputedNumbers.{computes}

-- a text's value, as its canonical text
abbrev value : List ℕ → Option (List ℕ)
value a = option_map number_text (numeric_value significant_digits a)

-- what an operator gives for two texts
abbrev computed : (ℤ → ℤ → Option ℤ) → List ℕ → List ℕ → Option (List ℕ)
computed f a b =
    option_and_then (λ x. option_and_then (λ y. option_map number_text (f x y)) (numeric_value significant_digits b)) (numeric_value significant_digits a)

record Numbers : Type 0 where
  -- division and remainder
  two_thirds : computed quotient_of (codes "2") (codes "3") ≡ Some (codes ".666666666666666667")
  minus_seven_by_two : computed whole_quotient_of (codes "-7") (codes "2") ≡ Some (codes "-3")
  minus_seven_modulo_three : computed remainder_of (codes "-7") (codes "3") ≡ Some (codes "2")
  seven_modulo_minus_three : computed remainder_of (codes "7") (codes "-3") ≡ Some (codes "-2")
  remainder_of_fractions : computed remainder_of (codes "5.5") (codes "-2") ≡ Some (codes "-.5")
  remainder_rounded_to_the_divisor_s_edge : computed remainder_of (codes "-1E-18") (codes "1") ≡ Some (codes ".999999999999999999")
  whole_quotient_too_large : computed whole_quotient_of (codes "1E17") (codes ".1") ≡ None
  quotient_of_halves : computed quotient_of (codes "-1") (codes "8") ≡ Some (codes "-.125")
  -- numeric values
  signs_and_head : value (codes "--3X") ≡ Some (codes "3")
  raised : value (codes "1E3") ≡ Some (codes "1000")
  lowered : value (codes "25E-1") ≡ Some (codes "2.5")
  point_without_a_digit : value (codes "1.E5") ≡ Some (codes "1")
  mark_without_a_digit : value (codes "1E") ≡ Some (codes "1")
  mark_and_sign_without_a_digit : value (codes "1E+") ≡ Some (codes "1")
  no_digit_before_the_mark : value (codes ".E1") ≡ Some (codes "0")
  signs_in_turn : value (codes "+-+3") ≡ Some (codes "-3")
  small_mark : value (codes "1e3") ≡ Some (codes "1")
  empty : value (codes "") ≡ Some (codes "0")
  no_literal : value (codes "ABC") ≡ Some (codes "0")
  sign_alone : value (codes "-") ≡ Some (codes "0")
  zeros_on_both_sides : value (codes "-00012.3400") ≡ Some (codes "-12.34")
  minus_zero : value (codes "-0") ≡ Some (codes "0")
  half : value (codes "0.50") ≡ Some (codes ".5")
  large_power : value (codes "1E17") ≡ Some (codes "100000000000000000")
  too_large : value (codes "1E18") ≡ None
  too_large_below_zero : value (codes "-1E30") ≡ None
  -- rounding and overflow
  sixteen_digits : computed sum_of (codes "999999999999999") (codes "1") ≡ Some (codes "1000000000000000")
  sixteen_digits_read : value (codes "1234567890123456") ≡ Some (codes "1234567890123456")
  product_too_large : computed product_of (codes "999999999999999") (codes "10000") ≡ None
  eighteen_digits_read : value (codes "12.34567890123456785") ≡ Some (codes "12.3456789012345679")
  sum_too_large : computed sum_of (codes "999999999999999999") (codes "1") ≡ None
  sum_below_zero_too_large : computed sum_of (codes "-999999999999999999") (codes "-1") ≡ None
  sum_within : computed sum_of (codes "999999999999999999") (codes "-1") ≡ Some (codes "999999999999999998")
  product_rounded : computed product_of (codes "1.00000000000000001") (codes "1.00000000000000001") ≡ Some (codes "1.00000000000000002")
  -- ties at the last place go away from zero, at both signs
  tie_up : value (codes "123456789012345678.5") ≡ Some (codes "123456789012345679")
  tie_down : value (codes "-123456789012345678.5") ≡ Some (codes "-123456789012345679")
  below_the_tie : value (codes "123456789012345678.49999") ≡ Some (codes "123456789012345678")
  tie_behind_the_point : value (codes "1.234567890123456785") ≡ Some (codes "1.23456789012345679")
  tie_behind_the_point_below_zero : value (codes "-1.234567890123456785") ≡ Some (codes "-1.23456789012345679")
  -- at 10 ^ 18
  tie_at_the_end : value (codes "999999999999999999.5") ≡ None
  tie_at_the_other_end : value (codes "-999999999999999999.5") ≡ None
  below_the_end : value (codes "999999999999999999.4") ≡ Some (codes "999999999999999999")
  -- at 10 ^ -18
  tie_at_the_unit : value (codes "5E-19") ≡ Some (codes ".000000000000000001")
  tie_at_the_unit_below_zero : value (codes "-5E-19") ≡ Some (codes "-.000000000000000001")
  below_the_tie_at_the_unit : value (codes "4E-19") ≡ Some (codes "0")
  unit_divided : computed quotient_of (codes ".000000000000000001") (codes "2") ≡ Some (codes ".000000000000000001")
  unit_divided_further : computed quotient_of (codes ".000000000000000001") (codes "3") ≡ Some (codes "0")
  -- by fifteen digits
  two_thirds_by_fifteen : option_map number_text (round 15 (pos 2) 3) ≡ Some (codes ".666666666666667")
  sixteen_digits_by_fifteen : option_map number_text (numeric_value 15 (codes "1234567890123456")) ≡ Some (codes "1234567890123460")

numbers : Numbers
unfolding computes
numbers = search rules

-- exponents that nothing computes: whatever digits follow, 0 stays 0
zero_raised : (s : List ℕ) → literal_size significant_digits (48 ∷ 69 ∷ s) ≡ Some 0
unfolding literal_size
zero_raised s =
    ap (λ p. round_size significant_digits p (10 ^ (0 + cond (signed_digits s).0 (signed_digits s).1 0))) (zero-mul (10 ^ cond (signed_digits s).0 0 (signed_digits s).1))
    ∙ round_zero significant_digits (10 ^ (0 + cond (signed_digits s).0 (signed_digits s).1 0)) (ten_pos (0 + cond (signed_digits s).0 (signed_digits s).1 0))

zero_raised_far : value (codes "0E999999999") ≡ Some (codes "0")
unfolding numeric_value size_text
zero_raised_far = ap (λ n. option_map number_text (option_map (signed false) n)) (zero_raised (codes "999999999"))

-- and a lowering of 39 places or more leaves nothing of 1
one_lowered : (s : List ℕ) → 39 ≤ digits_after 0 (front_digits s) → literal_size significant_digits (49 ∷ 69 ∷ 45 ∷ s) ≡ Some 0
unfolding literal_size
one_lowered s far =
    let most : 10 ^ 39 ≤ 10 ^ (0 + digits_after 0 (front_digits s)) = pow-le-pow_right {n = 10} (lit≤ tt) {i = 39} {j = 0 + digits_after 0 (front_digits s)} (omega arith) in
    round_small significant_digits (1 * 10 ^ 0) (10 ^ (0 + digits_after 0 (front_digits s))) (omega arith)

one_lowered_far : value (codes "1E-999999999") ≡ Some (codes "0")
unfolding numeric_value size_text
one_lowered_far = ap (λ n. option_map number_text (option_map (signed false) n)) (one_lowered (codes "999999999") (lit≤ tt))
