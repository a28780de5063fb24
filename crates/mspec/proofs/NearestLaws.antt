-- SPDX-License-Identifier: Apache-2.0
-- A number is rounded to itself, and what is rounded is a number.
use Rattle.mspec.proofs.SpecWords.{ℕ, zero, suc, ◌≡◌, ◌+◌, ◌*◌, ◌-◌, ◌/◌, ◌^◌, ◌<◌, ◌≤◌, Bool, true, false, Option, Some, None, refl, sym, ◌∙◌, ap, subst}
use Rattle.mspec.proofs.SpecWords.{arith, inl, inr, ⊎_elim, ℤ, pos, negsuc, option_map, unsigned_abs, mul_assoc, mul-pos, mul-lt-mul_of_pos_right}
use Rattle.mspec.proofs.SpecWords.{lt_of_mul-lt-mul_right, div-mul-le_self, cases_lt, nat_tests, digits_before, nearest, rounding_unit, round_size, round}
use Rattle.mspec.proofs.SpecWords.{signed, is_below_zero, IsNumber, NumberRoundsToItself, RoundedIsNumber, ZeroRoundsToZero}
use Rattle.mspec.proofs.Powers.{ten_pos, ten_add, ten_monotone}
use Rattle.mspec.proofs.Rounding.{digits_before_le, rounding_unit_is, nearest_exact, round_none, round_up_none, round_some, round_zero, round_is}

-- a power of ten is a product of two
pub ten_split : (j k : ℕ) → j ≤ k → 10 ^ (k - j) * 10 ^ j ≡ 10 ^ k
ten_split j k h = sym (ten_add (k - j) j) ∙ ap (λ x. 10 ^ x) (back j k h)
  where
    back : (j k : ℕ) → j ≤ k → k - j + j ≡ k
    back j k h = omega arith

-- few digits and a power of ten after them are below a power of ten
few_below : (kept k m u q P : ℕ) → 0 < q → m < 10 ^ kept → u ≡ m * 10 ^ k → u * q ≡ P → P < 10 ^ (kept + k) * q
few_below kept k m u q P some few parts e =
    let pos_k : 0 < 10 ^ k = ten_pos k in
    let below : m * 10 ^ k < 10 ^ kept * 10 ^ k = mul-lt-mul_of_pos_right few pos_k in
    let under : u < 10 ^ (kept + k) = omega (arith, ten_add kept k) in
    let scaled : u * q < 10 ^ (kept + k) * q = mul-lt-mul_of_pos_right under some in
    omega arith

-- the size of a number is rounded to itself
exact_size : (kept p q u m k : ℕ) → 0 < q → u * q ≡ p * 10 ^ 18 → u < 10 ^ 36 → m < 10 ^ kept → u ≡ m * 10 ^ k → round_size kept p q ≡ Some u
exact_size kept p q u m k some e range few parts =
    let j : ℕ = digits_before 36 (p * 10 ^ 18) q - kept in
    let c : ℕ = m * 10 ^ (k - j) in
    let under : p * 10 ^ 18 < 10 ^ (kept + k) * q = few_below kept k m u q (p * 10 ^ 18) some few parts e in
    let exponent : j ≤ k = omega (arith, digits_before_le 36 (kept + k) (p * 10 ^ 18) q under) in
    let value : c * 10 ^ j ≡ u = mul_assoc m (10 ^ (k - j)) (10 ^ j) ∙ ap (λ x. m * x) (ten_split j k exponent) ∙ sym parts in
    let itself : nearest (10 ^ j) (p * 10 ^ 18) q ≡ u = nearest_exact (10 ^ j) c (p * 10 ^ 18) q (ten_pos j) some (sym e ∙ ap (λ x. x * q) (sym value)) ∙ value in
    let below : u * q < 10 ^ 36 * q = mul-lt-mul_of_pos_right range some in
    let less : p < 10 ^ 18 * q = omega arith in
    round_some kept p q u less (ap (λ g. nearest g (p * 10 ^ 18) q) (rounding_unit_is kept (p * 10 ^ 18) q) ∙ itself) range

-- a fraction whose units are a number is rounded to these
pub exact_number : (kept p q u : ℕ) → 0 < q → u * q ≡ p * 10 ^ 18 → IsNumber kept (pos u) → round_size kept p q ≡ Some u
exact_number kept p q u some e number =
    let parts = number.few_digits in
    exact_size kept p q u parts.0 parts.1 some e number.in_range parts.2 parts.3

-- a number is rounded to itself
pub number_rounds_to_itself : NumberRoundsToItself
number_rounds_to_itself kept (pos n) number =
    round_is kept n (10 ^ 18) false (ten_pos 18) ∙ ap (option_map (signed false)) (exact_number kept n (10 ^ 18) n (ten_pos 18) refl number)
number_rounds_to_itself kept (negsuc n) number =
    round_is kept (suc n) (10 ^ 18) true (ten_pos 18)
    ∙ ap (option_map (signed true)) (exact_number kept (suc n) (10 ^ 18) (suc n) (ten_pos 18) refl (record { in_range = number.in_range; few_digits = number.few_digits }))

-- the digits before the point bound the fraction
pub digits_before_high : (m p q : ℕ) → p < 10 ^ m * q → p < 10 ^ digits_before m p q * q
unfolding digits_before
digits_before_high zero p q hi = hi
digits_before_high (suc m) p q hi =
    elim (cases_lt p (10 ^ m * q)) [
      | inl lt ↦ let rest = digits_before_high m p q lt in grind (arith, nat_tests)
      | inr ge ↦ grind (arith, nat_tests)
    ]

-- the steps counted are no more than the fraction is below
quotient_most : (K g q P : ℕ) → 0 < g → 0 < q → P < K * g * q → (2 * P + g * q) / (2 * (g * q)) ≤ K
quotient_most K g q P some_g some_q h =
    let m : ℕ = (2 * P + g * q) / (2 * (g * q)) in
    let most : m * (2 * (g * q)) ≤ 2 * P + g * q = div-mul-le_self (2 * P + g * q) (2 * (g * q)) in
    let less : m * (2 * (g * q)) < (K + 1) * (2 * (g * q)) = omega (arith, mul-pos some_g some_q) in
    let few : m < K + 1 = lt_of_mul-lt-mul_right (2 * (g * q)) less in
    omega arith

-- a fraction below one multiple has a nearest multiple that is not above it
pub nearest_most : (K g p q : ℕ) → 0 < g → 0 < q → p < K * g * q → (m : ℕ) × (m ≤ K) × (nearest g p q ≡ m * g)
unfolding nearest
nearest_most K g p q some_g some_q h = ((2 * p + g * q) / (2 * (g * q)), quotient_most K g q p some_g some_q h, refl)

-- what is known of a size u to which p / q is rounded
record Rounded (kept p q u : ℕ) : Type 0 where
  below : p < 10 ^ 18 * q
  is : u ≡ nearest (10 ^ (digits_before 36 (p * 10 ^ 18) q - kept)) (p * 10 ^ 18) q
  fits : u < 10 ^ 36

-- a size that is rounded is nearest, and it and the fraction are in range
rounded : (kept p q u : ℕ) → round_size kept p q ≡ Some u → Rounded kept p q u
rounded kept p q u e =
    let x : ℕ = nearest (rounding_unit kept (p * 10 ^ 18) q) (p * 10 ^ 18) q in
    let x_is : x ≡ nearest (10 ^ (digits_before 36 (p * 10 ^ 18) q - kept)) (p * 10 ^ 18) q = ap (λ g. nearest g (p * 10 ^ 18) q) (rounding_unit_is kept (p * 10 ^ 18) q) in
    ⊎_elim
    (λ (less : p < 10 ^ 18 * q).
    ⊎_elim
    (λ (small : x < 10 ^ 36).
    let some : Some u ≡ Some x = sym e ∙ round_some kept p q x less refl small in
    let same : u ≡ x = cc in
    record { below = less; is = same ∙ x_is; fits = subst (λ (n : ℕ). n < 10 ^ 36) (sym same) small })
    (λ (large : 10 ^ 36 ≤ x). let clash : Some u ≡ None = sym e ∙ round_up_none kept p q x refl large in cc)
    (cases_lt x (10 ^ 36)))
    (λ (large : 10 ^ 18 * q ≤ p). let clash : Some u ≡ None = sym e ∙ round_none kept p q large in cc)
    (cases_lt p (10 ^ 18 * q))

-- at most 10 ^ kept steps of a power of ten are a number
few_steps : (kept m j u : ℕ) → 0 < kept → u < 10 ^ 36 → m ≤ 10 ^ kept → u ≡ m * 10 ^ j → IsNumber kept (pos u)
few_steps kept m j u some range few is =
    ⊎_elim
    (λ (less : m < 10 ^ kept). let number : IsNumber kept (pos u) = record { in_range = range; few_digits = (m, j, less, is) } in number)
    (λ (all : 10 ^ kept ≤ m).
    let top : m ≡ 10 ^ kept = omega arith in
    let one : 1 * 10 ^ (kept + j) ≡ m * 10 ^ j = omega (arith, ten_add kept j, ap (λ x. x * 10 ^ j) top) in
    let more : 1 < 10 ^ kept = omega (arith, ten_monotone 1 kept 1 some) in
    let number : IsNumber kept (pos u) = record { in_range = range; few_digits = (1, kept + j, more, is ∙ sym one) } in number)
    (cases_lt m (10 ^ kept))

-- the size of what is rounded is that of a number
pub size_is_number : (kept p q u : ℕ) → 0 < kept → 0 < q → round_size kept p q ≡ Some u → IsNumber kept (pos u)
size_is_number kept p q u some some_q e =
    let r : Rounded kept p q u = rounded kept p q u e in
    let P : ℕ = p * 10 ^ 18 in
    let D : ℕ = digits_before 36 (p * 10 ^ 18) q in
    let under : P < 10 ^ D * q = digits_before_high 36 P q (omega (arith, r.below)) in
    let wide : P < 10 ^ (kept + (D - kept)) * q = omega (arith, ten_monotone D (kept + (D - kept)) q (omega arith)) in
    let steps : P < 10 ^ kept * 10 ^ (D - kept) * q = subst (λ (x : ℕ). P < x * q) (ten_add kept (D - kept)) wide in
    let most : (m : ℕ) × (m ≤ 10 ^ kept) × (nearest (10 ^ (D - kept)) P q ≡ m * 10 ^ (D - kept)) = nearest_most (10 ^ kept) (10 ^ (D - kept)) P q (ten_pos (D - kept)) some_q steps in
    few_steps kept most.0 (D - kept) u some r.fits most.1 (r.is ∙ most.2)

-- a number with a sign is a number
pub signed_number : (s : Bool) (kept n : ℕ) → IsNumber kept (pos n) → IsNumber kept (signed s n)
signed_number false kept n h = h
signed_number true kept zero h = h
signed_number true kept (suc n) h = record { in_range = h.in_range; few_digits = h.few_digits }

-- a sign and a rounded size are a number if the size is one
number_with_sign : (s : Bool) (kept : ℕ) (o : Option ℕ) (u : ℤ) → option_map (signed s) o ≡ Some u → ((n : ℕ) → o ≡ Some n → IsNumber kept (pos n)) → IsNumber kept u
number_with_sign s kept None u e h = cc
number_with_sign s kept (Some n) u e h =
    let same : signed s n ≡ u = cc in
    subst (λ (z : ℤ). IsNumber kept z) same (signed_number s kept n (h n refl))

-- what is rounded is a number
pub rounded_is_number : RoundedIsNumber
unfolding round
rounded_is_number kept p q u some some_q e =
    number_with_sign (is_below_zero p) kept (round_size kept (unsigned_abs p) q) u e (λ n. size_is_number kept (unsigned_abs p) q n some some_q)

-- 0 is rounded to 0
pub zero_rounds_to_zero : ZeroRoundsToZero
zero_rounds_to_zero kept q some = round_is kept 0 q false some ∙ ap (option_map (signed false)) (round_zero kept q some)
