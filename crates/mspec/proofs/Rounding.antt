-- SPDX-License-Identifier: Apache-2.0
-- What the parts of rounding are, and what it gives.
use Rattle.mspec.proofs.SpecWords.{ℕ, zero, suc, ◌≡◌, ◌+◌, ◌*◌, ◌-◌, ◌^◌, ◌<◌, ◌≤◌, ◌⊎◌, Bool, true, false, Some, None, refl, sym, ◌∙◌, ap, subst, arith, inl}
use Rattle.mspec.proofs.SpecWords.{inr, ⊎_elim, option_map, div-eq_of_lt-le, div-eq_of_lt, mul-pos, cases_lt, nat_tests, digits_before, nearest, rounding_unit}
use Rattle.mspec.proofs.SpecWords.{round_size, round, signed}
use Rattle.mspec.proofs.Powers.{ten_pos, ten_monotone}

pub digits_before_le : (m k p q : ℕ) → p < 10 ^ k * q → digits_before m p q ≤ k
unfolding digits_before
digits_before_le zero k p q hi = omega arith
digits_before_le (suc m) k p q hi =
    elim (cases_lt m k) [
      | inl lt ↦ let rest = digits_before_le m k p q hi in grind (arith, nat_tests)
      | inr ge ↦
          let rest = digits_before_le m k p q hi in
          let above : p < 10 ^ m * q = omega (arith, ten_monotone k m q ge) in
          grind (arith, nat_tests)
    ]

pub digits_before_is : (m k p q : ℕ) → k ≤ m → ((k ≡ 0) ⊎ (10 ^ (k - 1) * q ≤ p)) → p < 10 ^ k * q → digits_before m p q ≡ k
unfolding digits_before
digits_before_is zero k p q small lo hi = omega arith
digits_before_is (suc m) k p q small lo hi =
    elim (cases_lt m k) [
      | inl lt ↦
          let top : k ≡ suc m = omega arith in
          let below : 10 ^ m * q ≤ p =
          ⊎_elim (λ none. absurd (omega arith)) (λ (some : 10 ^ (k - 1) * q ≤ p). subst (λ (d : ℕ). 10 ^ d * q ≤ p) (omega arith) some) lo in
          grind (arith, nat_tests)
      | inr ge ↦
          let rest = digits_before_is m k p q ge lo hi in
          let above : p < 10 ^ m * q = omega (arith, ten_monotone k m q ge) in
          grind (arith, nat_tests)
    ]

pub rounding_unit_is : (kept p q : ℕ) → rounding_unit kept p q ≡ 10 ^ (digits_before 36 p q - kept)
unfolding rounding_unit
rounding_unit_is kept p q = refl

-- a multiple of the unit is its own nearest multiple
pub nearest_exact : (g c p q : ℕ) → 0 < g → 0 < q → p ≡ c * g * q → nearest g p q ≡ c * g
unfolding nearest
nearest_exact g c p q some_g some_q e =
    let pos : 0 < g * q = mul-pos some_g some_q in
    ap (λ x. x * g) (div-eq_of_lt-le {k = c} (2 * (g * q)) {m = 2 * p + g * q} (omega arith) (omega arith))

-- the three answers of `round_size`
pub round_none : (kept p q : ℕ) → 10 ^ 18 * q ≤ p → round_size kept p q ≡ None
unfolding round_size
round_none kept p q h = grind (arith, nat_tests)

pub round_up_none : (kept p q u : ℕ) → nearest (rounding_unit kept (p * 10 ^ 18) q) (p * 10 ^ 18) q ≡ u → 10 ^ 36 ≤ u → round_size kept p q ≡ None
unfolding round_size
round_up_none kept p q u e h = grind (arith, nat_tests)

pub round_some : (kept p q u : ℕ) → p < 10 ^ 18 * q → nearest (rounding_unit kept (p * 10 ^ 18) q) (p * 10 ^ 18) q ≡ u → u < 10 ^ 36 → round_size kept p q ≡ Some u
unfolding round_size
round_some kept p q u small e h = grind (arith, nat_tests)

pub round_zero : (kept q : ℕ) → 0 < q → round_size kept 0 q ≡ Some 0
round_zero kept q some =
    let g : ℕ = rounding_unit kept (0 * 10 ^ 18) q in
    let some_g : 0 < g = subst (λ (x : ℕ). 0 < x) (sym (rounding_unit_is kept (0 * 10 ^ 18) q)) (ten_pos (digits_before 36 (0 * 10 ^ 18) q - kept)) in
    round_some kept 0 q 0 (omega arith) (nearest_exact g 0 (0 * 10 ^ 18) q some_g some (omega arith) ∙ omega arith) (omega arith)

-- rounding a sign and a size
pub round_is : (kept n q : ℕ) (s : Bool) → 0 < q → round kept (signed s n) q ≡ option_map (signed s) (round_size kept n q)
unfolding round
round_is kept n q false some = refl
round_is kept zero q true some = ap (option_map (signed false)) (round_zero kept q some) ∙ sym (ap (option_map (signed true)) (round_zero kept q some))
round_is kept (suc n) q true some = refl

-- a fraction below half a unit
nearest_small : (p q : ℕ) → 0 < q → 2 * p < q → nearest 1 p q ≡ 0
unfolding nearest
nearest_small p q some h = ap (λ x. x * 1) (div-eq_of_lt {n = 2 * p + 1 * q} {m = 2 * (1 * q)} (omega arith))

unit_of_small : (kept p q : ℕ) → p < q → rounding_unit kept p q ≡ 1
unfolding rounding_unit
unit_of_small kept p q h = ap (λ x. 10 ^ x) (none kept (digits_before 36 p q) (digits_before_le 36 0 p q (omega arith)))
  where
    none : (kept d : ℕ) → d ≤ 0 → d - kept ≡ 0
    none kept d h = omega arith

pub round_small : (kept p q : ℕ) → 2 * (p * 10 ^ 18) < q → round_size kept p q ≡ Some 0
round_small kept p q h =
    round_some kept p q 0 (omega arith)
    (ap (λ g. nearest g (p * 10 ^ 18) q) (unit_of_small kept (p * 10 ^ 18) q (omega arith)) ∙ nearest_small (p * 10 ^ 18) q (omega arith) h)
    (omega arith)
