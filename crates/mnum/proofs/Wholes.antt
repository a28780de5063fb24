-- SPDX-License-Identifier: Apache-2.0
-- Whole numbers of at most eighteen digits.
use Rattle.mnum.proofs.NumWords.{ℕ, ◌≡◌, ◌+◌, ◌*◌, ◌-◌, ◌^◌, ◌<◌, ◌≤◌, true, List, take, length, get_or, All, ◌∙◌, ap, sym, arith, take_all, pow-le-pow_right}
use Rattle.mnum.proofs.NumWords.{All-from_get_or, fold_more, is_digit, with_digit, digits_after, ten_add}
use Rattle.mnum.proofs.Scans.{digit_high}

-- one more digit
pub digit_below : (n i c : ℕ) → n < 10 ^ i → c ≤ 57 → n * 10 + (c - 48) < 10 ^ (i + 1)
digit_below n i c below high = omega (arith, ten_add i 1)

-- at most eighteen digits
pub few_below : (n i : ℕ) → n < 10 ^ i → i ≤ 18 → n < 10 ^ 18
few_below n i below few = omega (arith, pow-le-pow_right {n = 10} (omega arith) {i = i} {j = 18} few)

-- before the eighteenth, one more fits
pub digit_fits : (n i : ℕ) (s : List ℕ) → n < 10 ^ i → i < length s → length s ≤ 18 → is_digit (get_or s i 0) ≡ true → n * 10 + (get_or s i 0 - 48) < 10 ^ 18
digit_fits n i s below inside few digit = few_below (n * 10 + (get_or s i 0 - 48)) (i + 1) (digit_below n i (get_or s i 0) below (digit_high _ digit)) (omega arith)

pub value_more : (n i : ℕ) (s : List ℕ) → i < length s → n ≡ digits_after 0 (take i s) → n * 10 + (get_or s i 0 - 48) ≡ digits_after 0 (take (i + 1) s)
value_more n i s inside is = ap (λ x. with_digit x (get_or s i 0)) is ∙ sym (fold_more with_digit 0 s i 0 inside)

-- the whole text is read
pub value_all : (n i : ℕ) (s : List ℕ) → length s ≤ i → n ≡ digits_after 0 (take i s) → n ≡ digits_after 0 s
value_all n i s end is = is ∙ ap (digits_after 0) (take_all i s end)

pub digits_all : (i : ℕ) (s : List ℕ) → length s ≤ i → ((k : ℕ) → k < i → is_digit (get_or s k 0) ≡ true) → All (λ c. is_digit c ≡ true) s
digits_all i s end each = All-from_get_or (λ c. is_digit c ≡ true) s 0 (λ k inside. each k (omega arith))
