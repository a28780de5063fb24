-- SPDX-License-Identifier: Apache-2.0
-- The order and the sum of two numbers in their own places, in a machine's numbers.
use Rattle.mnum.proofs.NumWords.{ℕ, ◌≡◌, ◌*◌, ◌-◌, ◌^◌, ◌<◌, ◌≤◌, Bool, true, false, cond, refl, ◌∙◌, ap, arith, Less, Equal, Greater, ℤ, pos, negsuc, ◌+ℤ◌}
use Rattle.mnum.proofs.NumWords.{unsigned_abs, w64, int_cmp, Ordering, le-ltb, nat_tests, ten_pos, ints, signed, mul-lt-mul_of_pos_right, mul-le-mul_right}
use Rattle.mnum.proofs.NumWords.{mul-pos, to_z, of_z}
use lib.Signed.{lt_z}

-- a number below 10 ^ 18 in size fits 64 bits
fits_64 : (s : Bool) (n : ℕ) → n < 10 ^ 18 → to_z w64 (of_z w64 (signed s n)) ≡ signed s n
fits_64 false n h = omega (arith, ints)
fits_64 true n h = omega (arith, ints)

-- a sum of two such numbers fits too
sum_fits_64 : (x y : ℤ) → unsigned_abs x < 10 ^ 18 → unsigned_abs y < 10 ^ 18 → to_z w64 (of_z w64 (to_z w64 (of_z w64 x) +ℤ to_z w64 (of_z w64 y))) ≡ x +ℤ y
sum_fits_64 (pos a) (pos b) few_x few_y = omega (arith, ints)
sum_fits_64 (pos a) (negsuc b) few_x few_y = omega (arith, ints)
sum_fits_64 (negsuc a) (pos b) few_x few_y = omega (arith, ints)
sum_fits_64 (negsuc a) (negsuc b) few_x few_y = omega (arith, ints)

-- a number from its sign and its size
sign_and_size : (z : ℤ) → signed (lt_z z (pos 0)) (unsigned_abs z) ≡ z
sign_and_size (pos n) = ap (λ b. signed b n) (le-ltb n 0 (omega arith))
sign_and_size (negsuc n) = refl

-- the sign and the size of a machine's sum
pub sum_is_signed : (s t : Bool) (a b n : ℕ) (x y z : ℤ) → z ≡ to_z w64 (of_z w64 (to_z w64 (of_z w64 x) +ℤ to_z w64 (of_z w64 y))) →
    unsigned_abs x < 10 ^ 18 → unsigned_abs y < 10 ^ 18 → x ≡ signed s a → y ≡ signed t b → n ≡ unsigned_abs z →
    signed (lt_z z (pos 0)) n ≡ signed s a +ℤ signed t b
sum_is_signed s t a b n x y z z_is few_x few_y x_is y_is n_is =
    ap (signed (lt_z z (pos 0))) n_is ∙ sign_and_size z ∙ z_is ∙ sum_fits_64 x y few_x few_y
    ∙ ap (λ k. k +ℤ y) x_is ∙ ap (λ k. signed s a +ℤ k) y_is

-- numbers a and b and their multiples A and B are ordered alike
record Alike (a b A B : ℕ) : Type 0 where
  less : a < b → A < B
  at_most : b ≤ a → B ≤ A

alike : (a b g : ℕ) → 0 < g → Alike a b (a * g) (b * g)
alike a b g some = record {
  less = λ h. mul-lt-mul_of_pos_right h some;
  at_most = λ h. mul-le-mul_right g h;
}

lt_alike : (s t : Bool) (a b A B : ℕ) → Alike a b A B → Alike b a B A → Alike 0 a 0 A → Alike 0 b 0 B → lt_z (signed s a) (signed t b) ≡ lt_z (signed s A) (signed t B)
lt_alike false false a b A B up down first second = grind (arith, nat_tests)
lt_alike false true a b A B up down first second = grind (arith, ints)
lt_alike true false a b A B up down first second = grind (arith, ints)
lt_alike true true a b A B up down first second = grind (arith, ints)

pub cmp_scaled : (s t : Bool) (a b g : ℕ) → 0 < g → int_cmp (signed s a) (signed t b) ≡ int_cmp (signed s (a * g)) (signed t (b * g))
cmp_scaled s t a b g some =
    let up : Alike a b (a * g) (b * g) = alike a b g some in
    let down : Alike b a (b * g) (a * g) = alike b a g some in
    let first : Alike 0 a 0 (a * g) = from_zero a g some in
    let second : Alike 0 b 0 (b * g) = from_zero b g some in
    ap (λ x. cond x Less (cond (lt_z (signed t b) (signed s a)) Greater Equal)) (lt_alike s t a b (a * g) (b * g) up down first second)
    ∙ ap (λ x. cond (lt_z (signed s (a * g)) (signed t (b * g))) Less (cond x Greater Equal)) (lt_alike t s b a (b * g) (a * g) down up second first)
  where
    from_zero : (a g : ℕ) → 0 < g → Alike 0 a 0 (a * g)
    from_zero a g some = record { less = λ h. mul-pos h some; at_most = λ h. omega (arith, mul-le-mul_right g h) }

-- the machine's numbers are ordered as the numbers are
pub cmp_is : (s t : Bool) (a b p q : ℕ) (x y : ℤ) (r : Ordering) → a < 10 ^ 18 → b < 10 ^ 18 → p ≡ q → x ≡ signed s a → y ≡ signed t b →
    r ≡ int_cmp (to_z w64 (of_z w64 x)) (to_z w64 (of_z w64 y)) → r ≡ int_cmp (signed s (a * 10 ^ (18 - p))) (signed t (b * 10 ^ (18 - q)))
cmp_is s t a b p q x y r few_a few_b places x_is y_is e =
    e
    ∙ ap (λ z. int_cmp (to_z w64 (of_z w64 z)) (to_z w64 (of_z w64 y))) x_is
    ∙ ap (λ z. int_cmp (to_z w64 (of_z w64 (signed s a))) (to_z w64 (of_z w64 z))) y_is
    ∙ ap (λ z. int_cmp z (to_z w64 (of_z w64 (signed t b)))) (fits_64 s a few_a)
    ∙ ap (λ z. int_cmp (signed s a) z) (fits_64 t b few_b)
    ∙ cmp_scaled s t a b (10 ^ (18 - p)) (ten_pos (18 - p))
    ∙ ap (λ z. int_cmp (signed s (a * 10 ^ (18 - p))) (signed t (b * 10 ^ (18 - z)))) places
