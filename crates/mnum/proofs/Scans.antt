-- SPDX-License-Identifier: Apache-2.0
-- Digits read one after another.
use Rattle.mnum.proofs.NumWords.{ℕ, ◌≡◌, ◌+◌, ◌*◌, ◌-◌, ◌^◌, ◌<◌, ◌≤◌, ◌⊎◌, true, false, List, take, length, get_or, sym, ◌∙◌, ap, subst, arith, inl, inr}
use Rattle.mnum.proofs.NumWords.{⊎_elim, nat_tests, fold_more, prefix_len_is, prefix_len, IsHead, ten_add, is_digit, with_digit, digits_after, front_digits}

-- one more digit that is kept
pub head_kept : (n d number c : ℕ) → 48 ≤ c → c ≤ 57 → n < 10 ^ 18 → IsHead n d number → IsHead (n * 10 + (c - 48)) d (with_digit number c)
head_kept n d number c low high few head =
    let none : d ≡ 0 = ⊎_elim (λ (e : d ≡ 0). e) (λ (many : 10 ^ 18 ≤ n). absurd (omega arith)) head.whole in
    let one : 10 ^ d ≡ 1 = ap (λ x. 10 ^ x) none in
    let first : n * 10 ^ d ≡ n = ap (λ x. n * x) one ∙ omega arith in
    let last : (n + 1) * 10 ^ d ≡ n + 1 = ap (λ x. (n + 1) * x) one ∙ omega arith in
    let next : (n * 10 + (c - 48)) * 10 ^ d ≡ n * 10 + (c - 48) = ap (λ x. (n * 10 + (c - 48)) * x) one ∙ omega arith in
    let after : (n * 10 + (c - 48) + 1) * 10 ^ d ≡ n * 10 + (c - 48) + 1 = ap (λ x. (n * 10 + (c - 48) + 1) * x) one ∙ omega arith in
    let same : number ≡ n = omega (arith, head.low, head.high) in
    record { low = omega arith; high = omega arith; whole = inl none }

-- one more digit that is dropped
pub head_dropped : (n d number c : ℕ) → 48 ≤ c → c ≤ 57 → 10 ^ 18 ≤ n → IsHead n d number → IsHead n (d + 1) (with_digit number c)
head_dropped n d number c low high many head =
    let ten : 10 ^ (d + 1) ≡ 10 ^ d * 10 = ten_add d 1 in
    let first : n * 10 ^ (d + 1) ≡ n * 10 ^ d * 10 = ap (λ x. n * x) ten ∙ omega arith in
    let last : (n + 1) * 10 ^ (d + 1) ≡ (n + 1) * 10 ^ d * 10 = ap (λ x. (n + 1) * x) ten ∙ omega arith in
    record { low = omega (arith, head.low); high = omega (arith, head.high); whole = inr many }

pub digit_low : (c : ℕ) → is_digit c ≡ true → 48 ≤ c
digit_low c h = grind (arith, nat_tests)

pub digit_high : (c : ℕ) → is_digit c ≡ true → c ≤ 57
digit_high c h = grind (arith, nat_tests)

pub read_more : (n d number i : ℕ) (s : List ℕ) (n' d' : ℕ) → i < length s → is_digit (get_or s i 0) ≡ true →
    ((n < 10 ^ 18) × (n' ≡ n * 10 + (get_or s i 0 - 48)) × (d' ≡ d)) ⊎ ((10 ^ 18 ≤ n) × (n' ≡ n) × (d' ≡ d + 1)) →
    IsHead n d (digits_after number (take i s)) → IsHead n' d' (digits_after number (take (i + 1) s))
read_more n d number i s n' d' h digit w head =
    let c : ℕ = get_or s i 0 in
    let step : digits_after number (take (i + 1) s) ≡ with_digit (digits_after number (take i s)) c = fold_more with_digit number s i 0 h in
    let low : 48 ≤ c = digit_low c digit in
    let high : c ≤ 57 = digit_high c digit in
    let at : IsHead n' d' (with_digit (digits_after number (take i s)) c) =
    ⊎_elim
    (λ (k : (n < 10 ^ 18) × (n' ≡ n * 10 + (c - 48)) × (d' ≡ d)).
    subst (λ (x : ℕ). IsHead x d' (with_digit (digits_after number (take i s)) c)) (sym k.1)
    (subst (λ (x : ℕ). IsHead (n * 10 + (c - 48)) x (with_digit (digits_after number (take i s)) c)) (sym k.2) (head_kept n d (digits_after number (take i s)) c low high k.0 head)))
    (λ (k : (10 ^ 18 ≤ n) × (n' ≡ n) × (d' ≡ d + 1)).
    subst (λ (x : ℕ). IsHead x d' (with_digit (digits_after number (take i s)) c)) (sym k.1)
    (subst (λ (x : ℕ). IsHead n x (with_digit (digits_after number (take i s)) c)) (sym k.2) (head_dropped n d (digits_after number (take i s)) c low high k.0 head)))
    w in
    subst (λ (x : ℕ). IsHead n' d' x) (sym step) at

-- where reading ends
pub front_is : (s : List ℕ) (i : ℕ) → i ≤ length s → ((k : ℕ) → k < i → is_digit (get_or s k 0) ≡ true) → (i < length s → is_digit (get_or s i 0) ≡ false) → i ≡ prefix_len is_digit s
front_is s i h all stop = sym (prefix_len_is is_digit s i 0 h all stop)

pub front_value : (s : List ℕ) (i n d number : ℕ) → i ≡ prefix_len is_digit s → IsHead n d (digits_after number (take i s)) → IsHead n d (digits_after number (front_digits s))
front_value s i n d number e head = subst (λ (k : ℕ). IsHead n d (digits_after number (take k s))) e head
