-- SPDX-License-Identifier: Apache-2.0
-- The number of the first bytes, and the order of lists by it.
use Rattle.mkey.proofs.KeyWords.{ℕ, zero, suc, Fits, w8, ◌≡◌, ◌+◌, ◌*◌, ◌/◌, ◌%◌, ◌^◌, ◌<◌, ◌≤◌, true, List, [], ◌∷◌, ◌++◌, get_or, drop, refl, sym, ◌∙◌, ap}
use Rattle.mkey.proofs.KeyWords.{arith, add-one, zero-add, inl, inr, ◌⊎◌, slice_cmp, Ordering, Less, Equal, Greater, nat_cmp, ordering_then, ordering_reverse}
use Rattle.mkey.proofs.KeyWords.{is_ne, nat_list_cmp_total, mod_below, mul-add-lt, pow-add, div-add-mod', pow-suc, mul-le-mul_right, pow-le-pow_right}
use Rattle.mkey.proofs.KeyWords.{big_endian, head_number, byte_pos}
use Rattle.std.proofs.Math.Facts.{Fits-lt-pow}
use Rattle.std.specs.Cmp.{nat_cmp_is, ranked}
use Rattle.std.proofs.lemmas.Bool.{cases_order}

-- each is below 256
pub record AreBytes (bytes : List ℕ) : Type 0 where
  pub each : (i : ℕ) → get_or bytes i 0 < 256

-- as those of a machine are
pub fitting_bytes : (bytes : List ℕ) → ((i : ℕ) → Fits w8 (get_or bytes i 0)) → AreBytes bytes
fitting_bytes bytes fit = record { each = λ i. Fits-lt-pow (fit i) }

rest_bytes : (b : ℕ) (bytes : List ℕ) → AreBytes (b ∷ bytes) → AreBytes bytes
rest_bytes b bytes are = record { each = λ i. are.each (suc i) }

pub head_below : (k : ℕ) (bytes : List ℕ) → AreBytes bytes → head_number k bytes < 256 ^ k
unfolding head_number
head_below zero bytes are = omega arith
head_below (suc k) [] are = byte_pos (suc k)
head_below (suc k) (b ∷ bytes) are =
    let first : b < 256 = are.each 0 in
    let rest = head_below k bytes (rest_bytes b bytes are) in
    omega (arith, pow-suc 256 k, mul-add-lt b (256 ^ k) (head_number k bytes) 256 first rest)

-- the first of two lists comes before the second if its head is less
pub less_by_head : (k : ℕ) (xs ys : List ℕ) → AreBytes xs → AreBytes ys → head_number k xs < head_number k ys → slice_cmp nat_cmp xs ys ≡ Less
unfolding head_number
less_by_head zero xs ys are_x are_y less = absurd (omega arith)
less_by_head (suc k) xs [] are_x are_y less = absurd (omega arith)
less_by_head (suc k) [] (y ∷ ys) are_x are_y less = refl
less_by_head (suc k) (x ∷ xs) (y ∷ ys) are_x are_y less = by_first (less_by_head k xs ys (rest_bytes x xs are_x) (rest_bytes y ys are_y)) (cases_order x y)
  where
    by_first : (head_number k xs < head_number k ys → slice_cmp nat_cmp xs ys ≡ Less) → ((x ≡ y) ⊎ ((x < y) ⊎ (y < x))) → ordering_then (nat_cmp x y) (slice_cmp nat_cmp xs ys) ≡ Less
    by_first rest (inl same) =
        let product : x * 256 ^ k ≡ y * 256 ^ k = ap (λ b. b * 256 ^ k) same in
        ap (λ o. ordering_then o (slice_cmp nat_cmp xs ys)) (sym (nat_cmp_is x y Equal same)) ∙ rest (omega arith)
    by_first rest (inr (inl below)) = ap (λ o. ordering_then o (slice_cmp nat_cmp xs ys)) (sym (nat_cmp_is x y Less below))
    by_first rest (inr (inr above)) =
        let more : suc y * 256 ^ k ≤ x * 256 ^ k = mul-le-mul_right (256 ^ k) above in
        let low = head_below k ys (rest_bytes y ys are_y) in
        absurd (omega arith)

-- one byte more
more_head : (k : ℕ) (bytes : List ℕ) → head_number (suc k) bytes ≡ head_number k bytes * 256 + get_or bytes k 0
unfolding head_number
more_head zero [] = refl
more_head zero (b ∷ bytes) = omega arith
more_head (suc k) [] = refl
more_head (suc k) (b ∷ bytes) =
    let place : b * 256 ^ suc k ≡ b * (256 ^ k * 256) = ap (λ w. b * w) (pow-suc 256 k) in
    let rest = more_head k bytes in
    omega arith

pub head_more : (k : ℕ) (bytes : List ℕ) → head_number (k + 1) bytes ≡ head_number k bytes * 256 + get_or bytes k 0
head_more k bytes = ap (λ n. head_number n bytes) (add-one k) ∙ more_head k bytes

pub head_none : (bytes : List ℕ) → 0 ≡ head_number 0 bytes
unfolding head_number
head_none bytes = refl

-- the number of fewer than eight bytes and one more is below that of eight
pub head_fits : (k b : ℕ) (bytes : List ℕ) → k < 8 → b < 256 → AreBytes bytes → head_number k bytes * 256 + b < 2 ^ 64
head_fits k b bytes few low are =
    let below = head_below k bytes are in
    let most : 256 ^ suc k ≤ 256 ^ 8 = pow-le-pow_right (omega arith) few in
    omega (arith, pow-suc 256 k)

-- ---- whole words

-- the number in k bytes that they begin with is their head
pub head_of_number : (k n : ℕ) (rest : List ℕ) → n < 256 ^ k → head_number k (big_endian k n ++ rest) ≡ n
unfolding head_number
head_of_number zero n rest below = omega arith
head_of_number (suc k) n rest below = ap (λ m. n / 256 ^ k * 256 ^ k + m) (head_of_number k (n % 256 ^ k) rest (mod_below n (256 ^ k) (byte_pos k))) ∙ div-add-mod' n (256 ^ k)

pub head_nil : (k : ℕ) → head_number k [] ≡ 0
unfolding head_number
head_nil zero = refl
head_nil (suc k) = refl

-- the head in two parts
pub head_parts : (j k t : ℕ) (bytes : List ℕ) → t ≡ j + k → head_number t bytes ≡ head_number j bytes * 256 ^ k + head_number k (drop j bytes)
unfolding head_number
head_parts zero k t bytes e = ap (λ n. head_number n bytes) (e ∙ zero-add k) ∙ omega arith
head_parts (suc j) k zero bytes e = absurd (omega arith)
head_parts (suc j) k (suc t) [] e = omega (arith, head_nil k)
head_parts (suc j) k (suc t) (b ∷ bytes) e =
    let fewer : t ≡ j + k = omega arith in
    let rest = head_parts j k t bytes fewer in
    let place : b * 256 ^ t ≡ b * (256 ^ j * 256 ^ k) = ap (λ w. b * w) (ap (λ n. 256 ^ n) fewer ∙ pow-add 256 j k) in
    omega arith

-- lists are in the order of their heads if those differ
pub head_decides : (k : ℕ) (xs ys : List ℕ) (order : Ordering) → AreBytes xs → AreBytes ys → order ≡ nat_cmp (head_number k xs) (head_number k ys) → is_ne order ≡ true → order ≡ slice_cmp nat_cmp xs ys
head_decides k xs ys Less are_x are_y e differ = sym (less_by_head k xs ys are_x are_y (ranked _ _ Less e))
head_decides k xs ys Equal are_x are_y e differ = absurd (cc)
head_decides k xs ys Greater are_x are_y e differ =
    sym (nat_list_cmp_total.antisymm xs ys ∙ ap ordering_reverse (less_by_head k ys xs are_y are_x (ranked _ _ Greater e)))
