-- SPDX-License-Identifier: Apache-2.0
-- How long the canonical text of a number is.
use Rattle.mvalue.proofs.ValueWords.{zero, suc, ◌≡◌, ◌+◌, ◌/◌, ◌%◌, ◌^◌, ◌<◌, ◌≤◌, true, false, cond, [], ◌∷◌, ◌++◌, length, refl, arith, length-append, ℤ, pos}
use Rattle.mvalue.proofs.ValueWords.{negsuc, unsigned_abs, decimal, fraction_text, whole_text, point_text, size_text, number_text, units, Num, units_number, ℕ}
use Rattle.mvalue.proofs.ValueWords.{List, ◌==◌}
use Rattle.mnum.specs.Start.{starts_number}
use Rattle.mnum.proofs.Prints.{decimal_short}
use Rattle.mnum.proofs.Starts.{text_starts}

fraction_short : (k n : ℕ) → length (fraction_text k n) ≤ k
fraction_short zero n = omega arith
fraction_short (suc k) n =
    elim (n == 0) as (λ b. length (cond b [] ((48 + n / 10 ^ k) ∷ fraction_text k (n % 10 ^ k))) ≤ suc k) [
      | true ↦ omega arith
      | false ↦ let more = fraction_short k (n % 10 ^ k) in omega (arith, more)
    ]

whole_short : (n : ℕ) → n < 10 ^ 18 → length (whole_text n) ≤ 18
whole_short n below =
    elim (n == 0) as (λ b. length (cond b [] (decimal n)) ≤ 18) [
      | true ↦ omega arith
      | false ↦ decimal_short n (decimal n) below refl
    ]

point_short : (n : ℕ) → length (point_text n) ≤ 19
point_short n =
    elim (n == 0) as (λ b. length (cond b [] (46 ∷ fraction_text 18 n)) ≤ 19) [
      | true ↦ omega arith
      | false ↦ let digits = fraction_short 18 n in omega (arith, digits)
    ]

size_short : (n : ℕ) → n < 10 ^ 36 → length (size_text n) ≤ 37
unfolding size_text
size_short n below =
    let whole : n / 10 ^ 18 < 10 ^ 18 = omega arith in
    elim (n == 0) as (λ b. length (cond b (48 ∷ []) (whole_text (n / 10 ^ 18) ++ point_text (n % 10 ^ 18))) ≤ 37) [
      | true ↦ omega arith
      | false ↦ let front = whole_short (n / 10 ^ 18) whole in
          let behind = point_short (n % 10 ^ 18) in
          omega (arith, front, behind, length-append (whole_text (n / 10 ^ 18)) (point_text (n % 10 ^ 18)))
    ]

number_short : (z : ℤ) → unsigned_abs z < 10 ^ 36 → length (number_text z) ≤ 38
number_short (pos n) below = let short = size_short n below in omega (arith, short)
number_short (negsuc n) below = let short = size_short (suc n) below in omega (arith, short)

pub text_short : (n : Num) → length (number_text (units n)) ≤ 38
text_short n = number_short (units n) (units_number n).in_range

-- it has a character
pub text_some : (n : Num) → 0 < length (number_text (units n))
text_some n = starts_some (number_text (units n)) (text_starts n)
  where
    starts_some : (s : List ℕ) → starts_number s ≡ true → 0 < length s
    starts_some [] e = let no : false ≡ true = e in absurd (cc)
    starts_some (c ∷ s) e = omega arith
