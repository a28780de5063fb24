-- SPDX-License-Identifier: Apache-2.0
-- Signs, and rounding with a sign.
use Rattle.mnum.proofs.NumWords.{ℕ, zero, suc, ◌≡◌, ◌+◌, ◌*◌, ◌-◌, ◌^◌, ◌<◌, ◌≤◌, Bool, true, false, not, Option, refl, sym, ◌∙◌, ap, arith, ℤ, ◌*ℤ◌}
use Rattle.mnum.proofs.NumWords.{option_map, mul-zero, IsFloor, ten_add, round_is, round_size, signed, round, zero-mul, beq}

-- the sign of a product
pub signed_mul : (s t : Bool) (m n : ℕ) → signed s m *ℤ signed t n ≡ signed (not (beq s t)) (m * n)
signed_mul false false m n = refl
signed_mul false true m zero = rw mul-zero refl
signed_mul false true m (suc n) = refl
signed_mul true false zero n = rw zero-mul refl
signed_mul true false (suc m) n = refl
signed_mul true true zero zero = refl
signed_mul true true zero (suc n) = rw zero-mul refl
signed_mul true true (suc m) zero = rw mul-zero refl
signed_mul true true (suc m) (suc n) = refl

-- what an exact whole part gives
pub exact_floor : (n t p q : ℕ) → 0 < q → n * q ≡ p * 10 ^ t → IsFloor n t p q
exact_floor n t p q some e = record { low = omega arith; high = omega arith }

-- a rounded size, with its sign, is what a fraction with that sign is rounded to
pub with_sign : (kept n q : ℕ) (s : Bool) (x : Option ℕ) (z : ℤ) → 0 < q → x ≡ round_size kept n q → z ≡ signed s n → round kept z q ≡ option_map (signed s) x
with_sign kept n q s x z some e is = ap (λ y. round kept y q) is ∙ round_is kept n q s some ∙ ap (option_map (signed s)) (sym e)

-- the product of two sizes, in their own places and in units
pub product_units : (m n s t : ℕ) → s ≤ 18 → t ≤ 18 → m * n * 10 ^ 36 ≡ m * 10 ^ (18 - s) * (n * 10 ^ (18 - t)) * 10 ^ (s + t)
product_units m n s t hs ht =
    let ones : 10 ^ (18 - s) * 10 ^ s ≡ 10 ^ 18 = sym (ten_add (18 - s) s) ∙ ap (λ x. 10 ^ x) (back s 18 hs) in
    let twos : 10 ^ (18 - t) * 10 ^ t ≡ 10 ^ 18 = sym (ten_add (18 - t) t) ∙ ap (λ x. 10 ^ x) (back t 18 ht) in
    let both : 10 ^ (18 - s) * 10 ^ s * (10 ^ (18 - t) * 10 ^ t) ≡ 10 ^ 18 * 10 ^ 18 = ap (λ x. x * (10 ^ (18 - t) * 10 ^ t)) ones ∙ ap (λ x. 10 ^ 18 * x) twos in
    let all : m * n * (10 ^ (18 - s) * 10 ^ s * (10 ^ (18 - t) * 10 ^ t)) ≡ m * n * (10 ^ 18 * 10 ^ 18) = ap (λ x. m * n * x) both in
    let parts : m * 10 ^ (18 - s) * (n * 10 ^ (18 - t)) * 10 ^ (s + t) ≡ m * 10 ^ (18 - s) * (n * 10 ^ (18 - t)) * (10 ^ s * 10 ^ t) = ap (λ x. m * 10 ^ (18 - s) * (n * 10 ^ (18 - t)) * x) (ten_add s t) in
    omega arith
  where
    back : (a b : ℕ) → a ≤ b → b - a + a ≡ b
    back a b h = omega arith
