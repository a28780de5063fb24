-- SPDX-License-Identifier: Apache-2.0
-- Units that no number has.
use Rattle.mnum.proofs.NumWords.{ℕ, ◌≡◌, ◌≢◌, ◌⊎◌, inl, inr, ◌+◌, ◌-◌, ◌*◌, ◌/◌, ◌%◌, ◌^◌, ◌<◌, ◌≤◌, sym, ◌∙◌, ap, arith, ⊎_elim, ℤ, unsigned_abs, cases_lt}
use Rattle.mnum.proofs.NumWords.{same_from_place, IsNumber, ten_pos, ten_add, mul-le-mul_left}

-- a factor on both sides
cancel : (a c w : ℕ) → 0 < w → a * w ≡ c * w → a ≡ c
cancel a c w some e = let both : a * w + 0 ≡ c * w + 0 = omega arith in (same_from_place a 0 c 0 w some some both).0

-- digits that do not end in 0 are no more than eighteen if eighteen with zeros after them are as much
pub too_many : (d j m k : ℕ) → d * 10 ^ j ≡ m * 10 ^ k → d % 10 ≢ 0 → m < 10 ^ 18 → d < 10 ^ 18
too_many d j m k e last few =
    ⊎_elim
    (λ (more : j < k).
    let apart : k ≡ (k - j - 1) + 1 + j = omega arith in
    let power : 10 ^ k ≡ 10 ^ (k - j - 1) * 10 * 10 ^ j = ap (λ n. 10 ^ n) apart ∙ ten_add (k - j - 1 + 1) j ∙ ap (λ n. n * 10 ^ j) (ten_add (k - j - 1) 1) in
    let tens : d ≡ m * 10 ^ (k - j - 1) * 10 = cancel d (m * 10 ^ (k - j - 1) * 10) (10 ^ j) (ten_pos j) (e ∙ ap (λ n. m * n) power ∙ around m (10 ^ (k - j - 1)) (10 ^ j)) in
    absurd (last (omega arith)))
    (λ (fewer : k ≤ j).
    let apart : j ≡ (j - k) + k = omega arith in
    let power : 10 ^ j ≡ 10 ^ (j - k) * 10 ^ k = ap (λ n. 10 ^ n) apart ∙ ten_add (j - k) k in
    let whole : d * 10 ^ (j - k) ≡ m = cancel (d * 10 ^ (j - k)) m (10 ^ k) (ten_pos k) (beside d (10 ^ (j - k)) (10 ^ k) ∙ ap (λ n. d * n) (sym power) ∙ e) in
    let least : d * 1 ≤ d * 10 ^ (j - k) = mul-le-mul_left d (ten_pos (j - k)) in
    omega arith)
    (cases_lt j k)
  where
    around : (m p t : ℕ) → m * (p * 10 * t) ≡ m * p * 10 * t
    around m p t = omega arith

    beside : (d p t : ℕ) → d * p * t ≡ d * (p * t)
    beside d p t = omega arith

-- the digits of a number end in 0, unless they are at most eighteen
pub few_of_number : (u : ℤ) (d j : ℕ) → d * 10 ^ j ≡ unsigned_abs u → d % 10 ≢ 0 → IsNumber 18 u → d < 10 ^ 18
few_of_number u d j e last number = let few = number.few_digits in too_many d j few.0 few.1 (e ∙ few.3) last few.2

-- digits that end in 0, with one of them fewer
pub stripped : (d p size : ℕ) → 0 < p → p ≤ 18 → d % 10 ≡ 0 → d * 10 ^ (18 - p) ≡ size → d / 10 * 10 ^ (18 - (p - 1)) ≡ size
stripped d p size some few last e =
    let one : 18 - (p - 1) ≡ 18 - p + 1 = omega arith in
    let tens : d / 10 * 10 ≡ d = omega arith in
    ap (λ n. d / 10 * 10 ^ n) one ∙ ap (λ n. d / 10 * n) (ten_add (18 - p) 1) ∙ beside (d / 10) (10 ^ (18 - p)) ∙ ap (λ n. n * 10 ^ (18 - p)) tens ∙ e
  where
    beside : (q t : ℕ) → q * (t * 10 ^ 1) ≡ q * 10 * t
    beside q t = omega arith

-- more than eighteen digits, of which none can be taken off the end
pub not_number : (u : ℤ) (d p size : ℕ) → d * 10 ^ (18 - p) ≡ size → size ≡ unsigned_abs u → 10 ^ 18 ≤ d → (d % 10 ≢ 0) ⊎ (p ≤ 0) → IsNumber 18 u → ⊥
not_number u d p size value is many (inl last) number = let few = few_of_number u d (18 - p) (value ∙ is) last number in omega arith
not_number u d p size value is many (inr none) number =
    let all : 18 - p ≡ 18 = omega arith in
    let same : d * 10 ^ 18 ≡ unsigned_abs u = ap (λ n. d * 10 ^ n) (sym all) ∙ value ∙ is in
    let range : unsigned_abs u < 10 ^ 36 = number.in_range in
    omega arith
