-- SPDX-License-Identifier: Apache-2.0
-- The whole part of a number, and whether it is 0.
use Rattle.mnum.proofs.NumWords.{ℕ, zero, suc, ◌≡◌, ◌*◌, ◌-◌, ◌/◌, ◌%◌, ◌^◌, ◌<◌, ◌≤◌, ◌+◌, Bool, true, false, not, refl, sym, ◌∙◌, ap, arith, lit<, pos, ◌-ℤ◌}
use Rattle.mnum.proofs.NumWords.{◌==◌, unsigned_abs, int_eq, w64, abs_signed, mul-div-mul_right, Decides-eqb, Decides-int_eq, same_from_decides, ints, signed}
use Rattle.mnum.proofs.NumWords.{ten_pos, ten_add, mul-pos, zero-mul, beq, to_z, of_z}
use Rattle.mspec.specs.Interpretations.{whole_part, is_true}
use Rattle.mnum.proofs.Sums.{quotient_signed}

positive : (s : Bool) → not (beq s false) ≡ s
positive true = refl
positive false = refl

-- digits at their places, and in units
same_whole : (n p : ℕ) → p ≤ 18 → n * 10 ^ (18 - p) / 10 ^ 18 ≡ n / 10 ^ p
same_whole n p few =
    let split : 10 ^ 18 ≡ 10 ^ p * 10 ^ (18 - p) = ap (λ k. 10 ^ k) (back p few) ∙ ten_add p (18 - p) in
    ap (λ d. n * 10 ^ (18 - p) / d) split ∙ mul-div-mul_right n (10 ^ p) (ten_pos (18 - p))
  where
    back : (p : ℕ) → p ≤ 18 → 18 ≡ p + (18 - p)
    back p few = omega arith

pub whole_is : (s : Bool) (n p : ℕ) → p ≤ 18 → signed s (n / 10 ^ p) ≡ whole_part (signed s (n * 10 ^ (18 - p)))
whole_is s n p few =
    ap (signed s) (sym (same_whole n p few))
    ∙ ap (λ t. signed t (n * 10 ^ (18 - p) / 10 ^ 18)) (sym (positive s))
    ∙ sym (quotient_signed s false (n * 10 ^ (18 - p)) (10 ^ 18) (lit< tt))

-- what the machine keeps of a whole part, with its sign
pub whole_kept : (n : ℕ) → n < 10 ^ 18 → to_z w64 n ≡ signed false n
whole_kept n small = omega (arith, ints)

pub whole_negated : (n : ℕ) → n < 10 ^ 18 → to_z w64 (of_z w64 (pos 0 -ℤ to_z w64 n)) ≡ signed true n
whole_negated n small = omega (arith, ints)

-- if no places are counted
pub all_whole : (d p : ℕ) → p ≡ 0 → d ≡ d / 10 ^ p
all_whole d p none = let one : d ≡ d / 1 = omega arith in one ∙ ap (λ k. d / 10 ^ k) (sym none)

pub no_fraction : (d p : ℕ) → p ≡ 0 → 0 ≡ d % 10 ^ p
no_fraction d p none = let one : 0 ≡ d % 1 = omega arith in one ∙ ap (λ k. d % 10 ^ k) (sym none)

pub truth_is : (s : Bool) (n p : ℕ) → not (n == 0) ≡ is_true (signed s (n * 10 ^ (18 - p)))
truth_is s n p =
    let size = n * 10 ^ (18 - p) in
    ap not (same_from_decides (n == 0) (int_eq (signed s size) (pos 0)) (Decides-eqb n 0) (
      λ e.
          let none : size ≡ 0 = sym (abs_signed s size) ∙ ap unsigned_abs ((Decides-int_eq (signed s size) (pos 0)).0 e) in
          no_digits n none (ten_pos (18 - p)),
      λ none. (Decides-int_eq (signed s size) (pos 0)).1 (ap (λ k. signed s (k * 10 ^ (18 - p))) none ∙ ap (signed s) (zero-mul (10 ^ (18 - p))) ∙ no_size s),
    ))
  where
    no_digits : (n : ℕ) {g : ℕ} → n * g ≡ 0 → 0 < g → n ≡ 0
    no_digits zero e some = refl
    no_digits (suc n) e some = absurd (omega (arith, mul-pos {m = suc n} (omega arith) some))

    no_size : (s : Bool) → signed s 0 ≡ pos 0
    no_size true = refl
    no_size false = refl
