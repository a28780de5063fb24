-- SPDX-License-Identifier: Apache-2.0
-- The numeric value of a text, and the canonical text of a number.
--
-- Restates "Numeric interpretation of data" and the canonical form of "Numeric data values" of ISO/IEC 11756:1999: the
-- signs in front are taken off, each `-` negating, and the value is that of the longest head that is a numeric literal,
-- or 0 if no head is one. Missing digits count as 0, so that `1.`, `1E`, `.E5` and a text without a literal need no
-- case of their own; NumberLaws says what is read in the words of the grammar.
use Rattle.std.specs.Prelude.{◌≡◌, ℕ, zero, suc, ◌+◌, ◌/◌, ◌%◌, ◌*◌, ◌^◌, Bool, true, false, not, cond, ◌||◌, ◌==◌, List, [], ◌∷◌, ◌++◌, drop, length}
use Rattle.std.specs.Prelude.{take_while, Option, option_map, Some, ℤ, pos, negsuc, decimal}
use Rattle.std.specs.List.{prefix_len}
use Rattle.mspec.specs.Number.{round_size, signed}
use Rattle.mspec.specs.Literal.{is_digit, digits_after}

abbrev pub is_sign : ℕ → Bool
is_sign c = (c == 43) || (c == 45)

-- the digits that a text begins with, and the text after them
abbrev pub front_digits : List ℕ → List ℕ
front_digits s = take_while is_digit s

abbrev pub after_digits : List ℕ → List ℕ
after_digits s = drop (prefix_len is_digit s) s

-- the digits of a fraction, if the text begins with a point
abbrev pub fraction_digits : List ℕ → List ℕ
fraction_digits [] = []
fraction_digits (c ∷ s) = cond (c == 46) (front_digits s) []

-- the text after a fraction; a point with no digit after it is none
abbrev pub after_fraction : List ℕ → List ℕ
after_fraction s = drop (cond (length (fraction_digits s) == 0) 0 (1 + length (fraction_digits s))) s

-- an exponent, after its mark and from its mark on: whether it is below zero, and its size; 0 if there is none
abbrev pub signed_digits : List ℕ → Bool × ℕ
signed_digits [] = (false, 0)
signed_digits (c ∷ s) = cond (c == 45) (true, digits_after 0 (front_digits s)) (cond (c == 43) (false, digits_after 0 (front_digits s)) (false, digits_after 0 (front_digits (c ∷ s))))

abbrev pub front_exponent : List ℕ → Bool × ℕ
front_exponent [] = (false, 0)
front_exponent (c ∷ s) = cond (c == 69) (signed_digits s) (false, 0)

-- the size of the literal that a text without signs begins with, rounded to `kept` digits
unfoldable pub literal_size : ℕ → List ℕ → Option ℕ
literal_size kept s =
    let rest = after_digits s in
    let e = front_exponent (after_fraction rest) in
    round_size kept
    (digits_after 0 (front_digits s ++ fraction_digits rest) * 10 ^ cond e.0 0 e.1)
    (10 ^ (length (fraction_digits rest) + cond e.0 e.1 0))

-- an odd number of minus signs among the signs in front
abbrev pub is_negated : List ℕ → Bool
is_negated [] = false
is_negated (c ∷ s) = cond (c == 45) (not (is_negated s)) (cond (c == 43) (is_negated s) false)

abbrev pub after_signs : List ℕ → List ℕ
after_signs s = drop (prefix_len is_sign s) s

-- the numeric value of a text in units of 10 ^ -18, rounded to `kept` digits; none from 10 ^ 18 on
unfoldable pub numeric_value : ℕ → List ℕ → Option ℤ
numeric_value kept s = option_map (signed (is_negated s)) (literal_size kept (after_signs s))

-- the digits of n / 10 ^ k below one, up to the last that is not 0
abbrev pub fraction_text : ℕ → ℕ → List ℕ
fraction_text zero n = []
fraction_text (suc k) n = cond (n == 0) [] ((48 + n / 10 ^ k) ∷ fraction_text k (n % 10 ^ k))

-- the digits before the point, none for 0
abbrev pub whole_text : ℕ → List ℕ
whole_text n = cond (n == 0) [] (decimal n)

-- the point with the digits after it, none for 0
abbrev pub point_text : ℕ → List ℕ
point_text n = cond (n == 0) [] (46 ∷ fraction_text 18 n)

unfoldable pub size_text : ℕ → List ℕ
size_text n = cond (n == 0) (48 ∷ []) (whole_text (n / 10 ^ 18) ++ point_text (n % 10 ^ 18))

-- the canonical text of a number in units of 10 ^ -18: no zero in front, none at the end of a fraction, no point without
-- a digit after it, no `+`, and no sign at 0
abbrev pub number_text : ℤ → List ℕ
number_text (pos n) = size_text n
number_text (negsuc n) = 45 ∷ size_text (suc n)

-- s is the canonical text of a number of at most `kept` significant digits
pub record IsCanonical (kept : ℕ) (s : List ℕ) : Type 0 where
  pub number : ℤ
  pub value : numeric_value kept s ≡ Some number
  pub text : number_text number ≡ s
