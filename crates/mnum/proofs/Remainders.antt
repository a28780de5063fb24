-- SPDX-License-Identifier: Apache-2.0
-- What a division with floor leaves.
use Rattle.mnum.proofs.NumWords.{ℕ, zero, suc, ◌≡◌, ◌+◌, ◌*◌, ◌-◌, ◌/◌, ◌%◌, ◌^◌, ◌<◌, ◌≤◌, Bool, true, false, cond, not, eqb, refl, sym, ◌∙◌, ap, subst, arith}
use Rattle.mnum.proofs.NumWords.{inl, ⊎_elim, ℤ, pos, negsuc, ◌-ℤ◌, ◌*ℤ◌, neg_ℤ, unsigned_abs, Option, Some, None, option_map, abs_signed, int_div_euclid, ints}
use Rattle.mnum.proofs.NumWords.{mod_below, cases_eq, nat_tests, div-mul-le_self, pow-le-pow_right, mul-sub, div-add-mod, div-eq_of_lt-le, mul_comm, IsFloor}
use Rattle.mnum.proofs.NumWords.{IsFine, floor_left, ten_pos, ten_add, round_some, digits_before_le, rounding_unit_is, round_size, nearest, rounding_unit}
use Rattle.mnum.proofs.NumWords.{digits_before, signed, round, floor_remainder, mul-lt-mul_of_pos_right, mul-le-mul_right, zero-mul, mul-pos, mul_assoc, beq}
use Rattle.mnum.proofs.SignLaws.{with_sign, exact_floor}
use Rattle.mnum.proofs.Prints.{scaled_remainder}

eqb_zero : (n : ℕ) → (n ≡ 0 → ⊥) → eqb n 0 ≡ false
eqb_zero n h = grind (arith, nat_tests)

left_none : (b : Bool) (r B : ℕ) → r ≡ 0 → floor_left b r B ≡ 0
left_none b r B e = ap (λ x. cond (eqb x 0) 0 (cond b x (B - x))) e

left_some : (b : Bool) (r B : ℕ) → (r ≡ 0 → ⊥) → floor_left b r B ≡ cond b r (B - r)
left_some b r B h = ap (λ t. cond t 0 (cond b r (B - r))) (eqb_zero r h)

left_same : (r B : ℕ) → floor_left true r B ≡ r
left_same r B = ⊎_elim (λ (e : r ≡ 0). left_none true r B e ∙ sym e) (λ (h : r ≡ 0 → ⊥). left_some true r B h) (cases_eq r 0)

up_to : (A B : ℕ) → pos A -ℤ pos (B * (A / B)) ≡ pos (A % B)
up_to A B = let whole : B * (A / B) + A % B ≡ A = div-add-mod A B in omega (arith, ints)

-- the part of a negative number
below : (a B : ℕ) → 0 < B → negsuc a -ℤ pos B *ℤ negsuc (a / B) ≡ pos (floor_left false (suc a % B) B)
below a B some =
    let k : ℕ = suc a / B in
    let r : ℕ = suc a % B in
    let whole : B * k + r ≡ suc a = div-add-mod (suc a) B in
    let small : r < B = mod_below (suc a) B some in
    let product : pos B *ℤ negsuc (a / B) ≡ neg_ℤ (pos (B * suc (a / B))) = refl in
    ⊎_elim
    (λ (none : r ≡ 0).
    let shape : (j : ℕ) → B * j ≡ suc a → B * suc (a / B) ≡ suc a = exact a B some in
    let top : B * suc (a / B) ≡ suc a = shape k (omega arith) in
    let zero_left : negsuc a -ℤ neg_ℤ (pos (B * suc (a / B))) ≡ pos 0 = omega (arith, ints) in
    zero_left ∙ ap pos (sym (left_none false r B none)))
    (λ (more : r ≡ 0 → ⊥).
    let quotient : a / B ≡ k = div-eq_of_lt-le {k = k} B {m = a} (omega arith) (omega arith) in
    let top : B * suc (a / B) ≡ B * k + B = ap (λ x. B * suc x) quotient ∙ omega arith in
    let some_left : negsuc a -ℤ neg_ℤ (pos (B * suc (a / B))) ≡ pos (B - r) = omega (arith, ints) in
    some_left ∙ ap pos (sym (left_some false r B more)))
    (cases_eq r 0)
  where
    exact : (a B : ℕ) → 0 < B → (j : ℕ) → B * j ≡ suc a → B * suc (a / B) ≡ suc a
    exact a B some zero e = absurd (omega arith)
    exact a B some (suc j) e =
        let quotient : a / B ≡ j = div-eq_of_lt-le {k = j} B {m = a} (omega arith) (omega arith) in
        ap (λ x. B * suc x) quotient ∙ e

by_positive : (s : Bool) (A B : ℕ) → 0 < B → signed s A -ℤ pos B *ℤ int_div_euclid (signed s A) (pos B) ≡ pos (floor_left (beq s false) (A % B) B)
by_positive false A B some = up_to A B ∙ ap pos (sym (left_same (A % B) B))
by_positive true zero B some =
    let whole : B * (0 / B) + 0 % B ≡ 0 = div-add-mod 0 B in
    let none : 0 % B ≡ 0 = omega arith in
    up_to 0 B ∙ ap pos none ∙ ap pos (sym (left_none false (0 % B) B none))
by_positive true (suc a) B some = below a B some

opposite : (s : Bool) (A : ℕ) → neg_ℤ (signed s A) ≡ signed (not s) A
opposite false A = refl
opposite true zero = refl
opposite true (suc A) = refl

turned : (z q : ℤ) (b : ℕ) → z -ℤ negsuc b *ℤ q ≡ neg_ℤ (neg_ℤ z -ℤ pos (suc b) *ℤ q)
turned z (pos n) b = omega (arith, ints)
turned z (negsuc n) b = omega (arith, ints)

same_beq : (s : Bool) → beq (not s) false ≡ beq s true
same_beq true = refl
same_beq false = refl

pub remainder_signed : (s t : Bool) (A B : ℕ) → 0 < B → floor_remainder (signed s A) (signed t B) ≡ signed t (floor_left (beq s t) (A % B) B)
remainder_signed s t A zero some = absurd (omega arith)
remainder_signed s false A (suc b) some = by_positive s A (suc b) some
remainder_signed s true A (suc b) some =
    turned (signed s A) (int_div_euclid (neg_ℤ (signed s A)) (pos (suc b))) b
    ∙ ap (λ z. neg_ℤ (z -ℤ pos (suc b) *ℤ int_div_euclid z (pos (suc b)))) (opposite s A)
    ∙ ap neg_ℤ (by_positive (not s) A (suc b) some ∙ ap (λ e. pos (floor_left e (A % suc b) (suc b))) (same_beq s))

left_scaled : (e : Bool) (r B g : ℕ) → 0 < g → floor_left e (r * g) (B * g) ≡ floor_left e r B * g
left_scaled e zero B g some = left_none e (zero * g) (B * g) (zero-mul g) ∙ sym (ap (λ x. x * g) (left_none e zero B refl) ∙ zero-mul g)
left_scaled true (suc r) B g some = left_same (suc r * g) (B * g) ∙ sym (ap (λ x. x * g) (left_same (suc r) B))
left_scaled false (suc r) B g some =
    let pos : 0 < suc r * g = mul-pos (omega arith) some in
    let scaled : (B - suc r) * g ≡ B * g - suc r * g = mul_comm (B - suc r) g ∙ mul-sub g B (suc r) ∙ ap (λ x. x - g * suc r) (mul_comm g B) ∙ ap (λ x. B * g - x) (mul_comm g (suc r)) in
    left_some false (suc r * g) (B * g) (λ e. absurd (omega arith)) ∙ sym scaled ∙ ap (λ x. x * g) (sym (left_some false (suc r) B (λ e. absurd (omega arith))))

pub remainder_is : (s t : Bool) (a b g A B P n : ℕ) (x : Option ℕ) → P ≤ 18 → g ≡ 10 ^ (18 - P) → 0 < B → a * g ≡ A → b * g ≡ B → n ≡ floor_left (beq s t) (a % b) b →
    ((p q : ℕ) → 0 < q → IsFloor n P p q → IsFine 18 n P p q → x ≡ round_size 18 p q) →
    (0 < unsigned_abs (signed t B)) × (round 18 (floor_remainder (signed s A) (signed t B)) (10 ^ 18) ≡ option_map (signed t) x)
remainder_is s t a b g A B P n x near g_is some a_is b_is n_is value =
    let some_g : 0 < g = subst (λ (k : ℕ). 0 < k) (sym g_is) (ten_pos (18 - P)) in
    let split : 10 ^ 18 ≡ g * 10 ^ P = ap (λ k. 10 ^ k) (back P near) ∙ ten_add (18 - P) P ∙ ap (λ k. k * 10 ^ P) (sym g_is) in
    let exact : n * 10 ^ 18 ≡ n * g * 10 ^ P = ap (λ k. n * k) split ∙ sym (mul_assoc n g (10 ^ P)) in
    let rest : A % B ≡ a % b * g = ap (λ k. k % B) (sym a_is) ∙ ap (λ k. a * g % k) (sym b_is) ∙ scaled_remainder a b g some_g in
    let left : floor_left (beq s t) (A % B) B ≡ n * g =
    ap (λ k. floor_left (beq s t) k B) rest ∙ ap (λ k. floor_left (beq s t) (a % b * g) k) (sym b_is) ∙ left_scaled (beq s t) (a % b) b g some_g ∙ ap (λ k. k * g) (sym n_is) in (
      subst (λ (k : ℕ). 0 < k) (sym (abs_signed t B)) some,
      with_sign 18 (n * g) (10 ^ 18) t x (floor_remainder (signed s A) (signed t B)) (ten_pos 18)
          (value (n * g) (10 ^ 18) (ten_pos 18) (exact_floor n P (n * g) (10 ^ 18) (ten_pos 18) exact) (inl exact))
          (remainder_signed s t A B some ∙ ap (signed t) left),
    )
  where
    back : (P : ℕ) → P ≤ 18 → 18 ≡ 18 - P + P
    back P near = omega arith

nearest_most : (g p q : ℕ) → 2 * q * nearest g p q ≤ 2 * p + g * q
unfolding nearest
nearest_most g p q =
    let most : (2 * p + g * q) / (2 * (g * q)) * (2 * (g * q)) ≤ 2 * p + g * q = div-mul-le_self (2 * p + g * q) (2 * (g * q)) in
    omega arith

-- a size below 10 ^ 18 - 1 is never rounded over
pub below_some : (p : ℕ) → p < (10 ^ 18 - 1) * 10 ^ 18 → round_size 18 p (10 ^ 18) ≡ None → ⊥
below_some p h none =
    let d : ℕ = digits_before 36 (p * 10 ^ 18) (10 ^ 18) in
    let few : d ≤ 36 = digits_before_le 36 36 (p * 10 ^ 18) (10 ^ 18) (omega arith) in
    let g : ℕ = rounding_unit 18 (p * 10 ^ 18) (10 ^ 18) in
    let small : g ≤ 10 ^ 18 = subst (λ (x : ℕ). x ≤ 10 ^ 18) (sym (rounding_unit_is 18 (p * 10 ^ 18) (10 ^ 18))) (pow-le-pow_right {n = 10} (omega arith) {i = d - 18} {j = 18} (omega arith)) in
    let u : ℕ = nearest g (p * 10 ^ 18) (10 ^ 18) in
    let fits : u < 10 ^ 36 = omega (arith, nearest_most g (p * 10 ^ 18) (10 ^ 18)) in
    let is : round_size 18 p (10 ^ 18) ≡ Some u = round_some 18 p (10 ^ 18) u (omega arith) refl fits in
    let clash : Some u ≡ None = sym is ∙ none in
    cc

pub remainder_fits : (n b d s P g : ℕ) (x : Option ℕ) → n < b → d < 10 ^ 18 → s ≤ 18 → P ≤ 18 → g ≡ 10 ^ (18 - P) → b * g ≡ d * 10 ^ (18 - s) →
    ((p q : ℕ) → 0 < q → IsFloor n P p q → IsFine 18 n P p q → x ≡ round_size 18 p q) → x ≡ None → ⊥
remainder_fits n b d s P g x less small near_s near g_is b_is value none =
    let some_g : 0 < g = subst (λ (k : ℕ). 0 < k) (sym g_is) (ten_pos (18 - P)) in
    let split : 10 ^ 18 ≡ g * 10 ^ P = ap (λ k. 10 ^ k) (back P near) ∙ ten_add (18 - P) P ∙ ap (λ k. k * 10 ^ P) (sym g_is) in
    let exact : n * 10 ^ 18 ≡ n * g * 10 ^ P = ap (λ k. n * k) split ∙ sym (mul_assoc n g (10 ^ P)) in
    let top : n * g < b * g = mul-lt-mul_of_pos_right less some_g in
    let most : d * 10 ^ (18 - s) ≤ (10 ^ 18 - 1) * 10 ^ (18 - s) = mul-le-mul_right (10 ^ (18 - s)) (omega arith) in
    let unit : 10 ^ (18 - s) ≤ 10 ^ 18 = pow-le-pow_right {n = 10} (omega arith) {i = 18 - s} {j = 18} (omega arith) in
    below_some (n * g) (omega arith) (sym (value (n * g) (10 ^ 18) (ten_pos 18) (exact_floor n P (n * g) (10 ^ 18) (ten_pos 18) exact) (inl exact)) ∙ none)
  where
    back : (P : ℕ) → P ≤ 18 → 18 ≡ 18 - P + P
    back P near = omega arith
