-- SPDX-License-Identifier: Apache-2.0
-- The canonical text of a number is ASCII.
use Rattle.mvalue.proofs.ValueWords.{suc, ◌/◌, ◌%◌, ◌^◌, ◌<◌, true, false, cond, [], ◌∷◌, ◌++◌, All, arith, lit<, ℤ, pos, negsuc, unsigned_abs, nat_tests}
use Rattle.mvalue.proofs.ValueWords.{fraction_text, whole_text, point_text, size_text, number_text, Digit, fraction_all, whole_all, size_parts, units, Num}
use Rattle.mvalue.proofs.ValueWords.{units_number, ℕ, List, ◌==◌}
use Rattle.std.proofs.lemmas.List.Elements.{All-nil, All-cons, All-append, All-weaker}

-- the byte is a character of ASCII
abbrev pub Ascii : ℕ → Type 0
Ascii c = c < 128

digit_ascii : (c : ℕ) → Digit c → Ascii c
digit_ascii c h = grind (arith, nat_tests)

digits_ascii : (s : List ℕ) → All Digit s → All Ascii s
digits_ascii s all = All-weaker Digit Ascii digit_ascii s all

point_ascii : (n : ℕ) → n < 10 ^ 18 → All Ascii (point_text n)
point_ascii n below =
    elim (n == 0) as (λ b. All Ascii (cond b [] (46 ∷ fraction_text 18 n))) [
      | true ↦ All-nil Ascii
      | false ↦ All-cons Ascii 46 (fraction_text 18 n) (lit< tt) (digits_ascii (fraction_text 18 n) (fraction_all 18 n below))
    ]

size_ascii : (n : ℕ) → n < 10 ^ 36 → All Ascii (size_text n)
unfolding size_text
size_ascii n below =
    elim (n == 0) as (λ b. All Ascii (cond b (48 ∷ []) (whole_text (n / 10 ^ 18) ++ point_text (n % 10 ^ 18)))) [
      | true ↦ All-cons Ascii 48 [] (lit< tt) (All-nil Ascii)
      | false ↦ All-append Ascii (whole_text (n / 10 ^ 18)) (point_text (n % 10 ^ 18)) (digits_ascii (whole_text (n / 10 ^ 18)) (whole_all (n / 10 ^ 18) (size_parts n below).0)) (point_ascii (n % 10 ^ 18) (size_parts n below).1)
    ]

number_ascii : (z : ℤ) → unsigned_abs z < 10 ^ 36 → All Ascii (number_text z)
number_ascii (pos n) below = size_ascii n below
number_ascii (negsuc n) below = All-cons Ascii 45 (size_text (suc n)) (lit< tt) (size_ascii (suc n) below)

pub text_ascii : (n : Num) → All Ascii (number_text (units n))
text_ascii n = number_ascii (units n) (units_number n).in_range
