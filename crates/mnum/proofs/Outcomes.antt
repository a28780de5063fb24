-- SPDX-License-Identifier: Apache-2.0
-- What an operation gives, under another name of its definition.
use Rattle.mnum.proofs.NumWords.{◌≡◌, ℕ, ◌<◌, ◌∙◌, subst, sym, refl, ℤ, unsigned_abs, Option, Some, None, Result, Ok, Err, IfErr, MatchResult, option_map}
use Rattle.mnum.proofs.NumWords.{units, Num}
use Rattle.mnum.specs.Division.{IsOutcome}
use Rattle.mnum.specs.declared.num.Over.{Over}
use Rattle.mnum.specs.declared.num.ArithFault.{ArithFault}
use Rattle.mnum.specs.declared.num.ArithFault.TheVariants.{Zero, Over as TooLarge}

pub same_number : (x y : Option ℤ) (r : Result Num Over) → x ≡ y → MatchResult r (λ n. y ≡ Some (units n)) (λ _. y ≡ None) → MatchResult r (λ n. x ≡ Some (units n)) (λ _. x ≡ None)
same_number x y (Ok n) e h = e ∙ h
same_number x y (Err f) e h = e ∙ h

-- a division whose divisor is not zero
pub outcome_is : (divisor : ℤ) (x y : Option ℤ) (r : Result Num ArithFault) → (0 < unsigned_abs divisor) × (x ≡ y) → MatchResult r (λ n. y ≡ Some (units n)) (λ e. (e ≡ TooLarge) × (y ≡ None)) → IsOutcome divisor x r
outcome_is divisor x y (Ok n) e h = (e.0, e.1 ∙ h)
outcome_is divisor x y (Err fault) e h = subst (λ (f : ArithFault). IsOutcome divisor x (Err f)) (sym h.0) (e.0, e.1 ∙ h.1)

-- one that always has a result
pub never_over : (y : Option ℤ) (r : Result Num ArithFault) → (y ≡ None → ⊥) → MatchResult r (λ n. y ≡ Some (units n)) (λ e. (e ≡ TooLarge) × (y ≡ None)) → IfErr r (λ e. e ≡ Zero)
never_over y (Ok n) some h = tt
never_over y (Err fault) some h = absurd (some h.1)

pub mapped_none : (f : ℕ → ℤ) (x : Option ℕ) → option_map f x ≡ None → x ≡ None
mapped_none f None h = refl
mapped_none f (Some n) h = cc

-- what a division gives of the same numbers
pub of_same : (f : ℤ → ℤ → Option ℤ) (x y x' y' : ℤ) (r : Option ℤ) → x ≡ x' → y ≡ y' → (0 < unsigned_abs y) × (f x y ≡ r) → (0 < unsigned_abs y') × (f x' y' ≡ r)
of_same f x y x' y' r first second given =
    subst (λ (z : ℤ). (0 < unsigned_abs z) × (f x' z ≡ r)) second (subst (λ (z : ℤ). (0 < unsigned_abs y) × (f z y ≡ r)) first given)
