-- SPDX-License-Identifier: Apache-2.0
-- Sums, whole quotients and remainders at one scale.
use Rattle.mnum.proofs.NumWords.{ℕ, zero, suc, ◌≡◌, ◌+◌, ◌*◌, ◌-◌, ◌/◌, ◌^◌, ◌<◌, ◌≤◌, Bool, true, false, not, refl, sym, ◌∙◌, ap, subst, arith, inl, pos, ◌-ℤ◌}
use Rattle.mnum.proofs.NumWords.{◌+ℤ◌, neg_ℤ, int_div, unsigned_abs, Option, option_map, abs_signed, w128, ints, pow-le-pow_right, zero-div, mul-div-mul_right}
use Rattle.mnum.proofs.NumWords.{IsFloor, IsFine, ten_pos, ten_add, round_size, signed, round, to_z, of_z, SFits, mul_assoc, mul-lt-mul_of_pos_right, beq}
use Rattle.mnum.proofs.SignLaws.{with_sign, exact_floor}

pub places_value : (d s P : ℕ) → s ≤ P → P ≤ 18 → d * 10 ^ (P - s) * 10 ^ (18 - P) ≡ d * 10 ^ (18 - s)
places_value d s P h k = mul_assoc d (10 ^ (P - s)) (10 ^ (18 - P)) ∙ ap (λ x. d * x) (sym (ten_add (P - s) (18 - P)) ∙ ap (λ x. 10 ^ x) (sum s P h k))
  where
    sum : (s P : ℕ) → s ≤ P → P ≤ 18 → P - s + (18 - P) ≡ 18 - s
    sum s P h k = omega arith

pub places_below : (d e x : ℕ) → d < 10 ^ 18 → e ≤ 18 → x ≡ 10 ^ e → d * x < 10 ^ 36
places_below d e x few near is =
    let most : x ≤ 10 ^ 18 = omega (arith, is, pow-le-pow_right {n = 10} (omega arith) {i = e} {j = 18} near) in
    let pos : 0 < x = omega (arith, is, ten_pos e) in
    omega (arith, mul-lt-mul_of_pos_right {m = d} {n = 10 ^ 18} {k = x} few pos)

pub negated_fits : (n : ℕ) → n < 10 ^ 36 → SFits w128 (pos 0 -ℤ to_z w128 n)
negated_fits n h = omega (arith, ints)

pub negated_is : (n : ℕ) → n < 10 ^ 36 → to_z w128 (of_z w128 (pos 0 -ℤ to_z w128 n)) ≡ neg_ℤ (pos n)
negated_is n h = omega (arith, ints)

pub kept_is : (n : ℕ) → n < 10 ^ 36 → to_z w128 n ≡ pos n
kept_is n h = omega (arith, ints)

-- a sum at another scale
pub scale_sum : (s na nb : Bool) (n a b g : ℕ) → signed s n ≡ signed na a +ℤ signed nb b → signed s (n * g) ≡ signed na (a * g) +ℤ signed nb (b * g)
scale_sum false false false n a b g h = let e : n ≡ a + b = omega (arith, ints) in omega (arith, ints, ap (λ x. x * g) e)
scale_sum false false true n a b g h = let e : n + b ≡ a = omega (arith, ints) in omega (arith, ints, ap (λ x. x * g) e)
scale_sum false true false n a b g h = let e : n + a ≡ b = omega (arith, ints) in omega (arith, ints, ap (λ x. x * g) e)
scale_sum false true true n a b g h = let e : n + a + b ≡ 0 = omega (arith, ints) in omega (arith, ints, ap (λ x. x * g) e)
scale_sum true false false n a b g h = let e : n + a + b ≡ 0 = omega (arith, ints) in omega (arith, ints, ap (λ x. x * g) e)
scale_sum true false true n a b g h = let e : n + a ≡ b = omega (arith, ints) in omega (arith, ints, ap (λ x. x * g) e)
scale_sum true true false n a b g h = let e : n + b ≡ a = omega (arith, ints) in omega (arith, ints, ap (λ x. x * g) e)
scale_sum true true true n a b g h = let e : n ≡ a + b = omega (arith, ints) in omega (arith, ints, ap (λ x. x * g) e)

pub sum_is : (s na nb : Bool) (n a b g A B P : ℕ) (x : Option ℕ) → P ≤ 18 → g ≡ 10 ^ (18 - P) → signed s n ≡ signed na a +ℤ signed nb b → a * g ≡ A → b * g ≡ B →
    ((p q : ℕ) → 0 < q → IsFloor n P p q → IsFine 18 n P p q → x ≡ round_size 18 p q) →
    round 18 (signed na A +ℤ signed nb B) (10 ^ 18) ≡ option_map (signed s) x
sum_is s na nb n a b g A B P x near g_is sum a_is b_is value =
    let split : 10 ^ 18 ≡ g * 10 ^ P = ap (λ k. 10 ^ k) (back P near) ∙ ten_add (18 - P) P ∙ ap (λ k. k * 10 ^ P) (sym g_is) in
    let exact : n * 10 ^ 18 ≡ n * g * 10 ^ P = ap (λ k. n * k) split ∙ sym (mul_assoc n g (10 ^ P)) in
    let z_is : signed na A +ℤ signed nb B ≡ signed s (n * g) =
    ap (λ k. signed na k +ℤ signed nb B) (sym a_is) ∙ ap (λ k. signed na (a * g) +ℤ signed nb k) (sym b_is) ∙ sym (scale_sum s na nb n a b g sum) in
    with_sign 18 (n * g) (10 ^ 18) s x (signed na A +ℤ signed nb B) (ten_pos 18) (value (n * g) (10 ^ 18) (ten_pos 18) (exact_floor n P (n * g) (10 ^ 18) (ten_pos 18) exact) (inl exact)) z_is
  where
    back : (P : ℕ) → P ≤ 18 → 18 ≡ 18 - P + P
    back P near = omega arith

-- the quotient without its fraction
pub quotient_signed : (s t : Bool) (m n : ℕ) → 0 < n → int_div (signed s m) (signed t n) ≡ signed (not (beq s t)) (m / n)
quotient_signed s t m zero h = absurd (omega arith)
quotient_signed false false m (suc n) h = refl
quotient_signed false true m (suc n) h = refl
quotient_signed true false zero (suc n) h = ap pos (zero-div (suc n)) ∙ ap (signed true) (sym (zero-div (suc n)))
quotient_signed true false (suc m) (suc n) h = refl
quotient_signed true true zero (suc n) h = ap neg_ℤ (ap pos (zero-div (suc n))) ∙ ap (signed false) (sym (zero-div (suc n)))
quotient_signed true true (suc m) (suc n) h = refl

pub quotient_is : (s t : Bool) (a b g A B : ℕ) (x : Option ℕ) → 0 < g → 0 < B → a * g ≡ A → b * g ≡ B →
    ((p q : ℕ) → 0 < q → IsFloor (a / b) 0 p q → IsFine 18 (a / b) 0 p q → x ≡ round_size 18 p q) →
    (0 < unsigned_abs (signed t B)) × (round 18 (int_div (signed s A) (signed t B)) 1 ≡ option_map (signed (not (beq s t))) x)
quotient_is s t a b g A B x some_g some a_is b_is value =
    let same : A / B ≡ a / b = ap (λ k. k / B) (sym a_is) ∙ ap (λ k. a * g / k) (sym b_is) ∙ mul-div-mul_right a b some_g in
    let exact : a / b * 1 ≡ a / b * 10 ^ 0 = refl in (
      subst (λ (n : ℕ). 0 < n) (sym (abs_signed t B)) some,
      with_sign 18 (a / b) 1 (not (beq s t)) x (int_div (signed s A) (signed t B)) (omega arith)
          (value (a / b) 1 (omega arith) (exact_floor (a / b) 0 (a / b) 1 (omega arith) exact) (inl exact))
          (quotient_signed s t A B some ∙ ap (signed (not (beq s t))) same),
    )
