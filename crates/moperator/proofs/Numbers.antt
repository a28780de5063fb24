-- SPDX-License-Identifier: Apache-2.0
-- Numbers of values, and what an operation on numbers gives.
use Rattle.moperator.proofs.OperatorWords.{◌≡◌, ◌<◌, ◌^◌, Bool, true, false, Some, None, Result, Ok, Err, refl, sym, ◌∙◌, [], ap, subst, arith, unwrap_or}
use Rattle.moperator.proofs.OperatorWords.{IfSome, pos, negsuc, unsigned_abs, MatchResult, int_eq, Decides-int_eq, significant_digits, numeric_value}
use Rattle.moperator.proofs.OperatorWords.{number_text, Text, Act, give_some, as_number, as_text, Yields, yields_gives, units, fault_of, outcome_units, Code}
use Rattle.std.proofs.Common.{not, Option}
use Rattle.std.specs.Prelude.{ℤ}
use Rattle.std.specs.Int.{w64}
use Rattle.std.proofs.lemmas.Int.{ints}
use mir.Val.{to_z, of_z}
use Rattle.mspec.specs.Code.{Zover}
use Rattle.mspec.proofs.ComputedNumbers.{value_none}
use Rattle.mspec.specs.Interpretations.{is_true}
use Rattle.mnum.specs.declared.num.Num.{Num}
use Rattle.mnum.specs.Division.{Leaves}
use Rattle.mnum.specs.declared.num.Over.{Over}
use Rattle.mnum.specs.declared.num.ArithFault.{ArithFault}
use Rattle.mnum.specs.declared.num.ArithFault.TheVariants as arith
use Rattle.moperator.specs.Faults.{division_code}
use Rattle.moperator.specs.Calculations.{division}
use Rattle.moperator.specs.declared.code.Code.TheVariants as codes

-- the number of a text, if there is one
pub number_is : (x : Text) (n : Num) → numeric_value significant_digits x ≡ Some (units n) → Yields fault_of (as_number x) units (Ok n)
number_is x n e = subst (λ (o : Option ℤ). Yields fault_of (give_some Zover o) units (Ok n)) (sym e) (yields_gives (units n) units n refl)

pub no_number : (x : Text) → numeric_value significant_digits x ≡ None → Yields {X = Num} fault_of (as_number x) units (Err codes.Zover)
no_number x e = subst (λ (o : Option ℤ). Yields {X = Num} fault_of (give_some Zover o) units (Err codes.Zover)) (sym e) (record { ends = λ s. refl })

-- that of the empty text is 0
pub empty_number : (n : Num) → units n ≡ pos 0 → Yields fault_of (as_number []) units (Ok n)
empty_number n none = number_is [] n (value_none ∙ ap Some (sym none))

-- what the clauses of an operation say of its result
outcome_is : (r : Result Num Over) (o : Option ℤ) → MatchResult r (λ n. o ≡ Some (units n)) (λ _. o ≡ None) → outcome_units r ≡ o
outcome_is (Ok n) o h = sym h
outcome_is (Err over) o h = sym h

-- what an operation gives of two numbers
pub computed_outcome : (r : Result Num Over) (o : Option ℤ) {t : Result Text Code} → MatchResult r (λ n. o ≡ Some (units n)) (λ _. o ≡ None)
    → Yields fault_of (as_text (outcome_units r)) (λ (v : Text). v) t → Yields fault_of (as_text o) (λ (v : Text). v) t
computed_outcome r o {t = t} h k = subst (λ (o : Option ℤ). Yields fault_of (as_text o) (λ (v : Text). v) t) (outcome_is r o h) k

-- what an operation leaves in the place of a number
pub number_left : (x : Option ℤ) (left : Num) → x ≡ Some (units left) → Yields {E = Code} fault_of (as_text x) (λ (u : Unit {0}). number_text (units left)) (Ok tt)
number_left x left e =
    subst (λ (o : Option ℤ). Yields {E = Code} fault_of (as_text o) (λ (u : Unit {0}). number_text (units left)) (Ok tt)) (sym e) (yields_gives (number_text (units left)) (λ (u : Unit {0}). number_text (units left)) tt refl)

pub no_number_left : (x : Option ℤ) (left : Num) → x ≡ None → Yields fault_of (as_text x) (λ (u : Unit {0}). number_text (units left)) (Err codes.Zover)
no_number_left x left e = subst (λ (o : Option ℤ). Yields fault_of (as_text o) (λ (u : Unit {0}). number_text (units left)) (Err codes.Zover)) (sym e) (record { ends = λ s. refl })

-- ---- division

some_is_true : (z : ℤ) → 0 < unsigned_abs z → is_true z ≡ true
some_is_true z some = go (int_eq z (pos 0)) refl
  where
    go : (b : Bool) → int_eq z (pos 0) ≡ b → not b ≡ true
    go true e = let none = ap unsigned_abs ((Decides-int_eq z (pos 0)).0 e) in absurd (omega (arith, some, none))
    go false e = refl

none_is_false : (z : ℤ) → unsigned_abs z ≡ 0 → is_true z ≡ false
none_is_false z none = ap not ((Decides-int_eq z (pos 0)).1 (is_zero z none))
  where
    is_zero : (z : ℤ) → unsigned_abs z ≡ 0 → z ≡ pos 0
    is_zero (pos n) e = ap pos e
    is_zero (negsuc n) e = absurd (omega (arith, e))

division_by : (divisor : ℤ) (x : Option ℤ) (y : Option ℤ) → 0 < unsigned_abs divisor → x ≡ y → ◌≡◌ {A = Act Text} (division divisor x) (as_text y)
division_by divisor x y some e = rw (some_is_true divisor some, e) refl

-- what a division leaves in the place of a number
pub quotient_left : (divisor : ℤ) (x : Option ℤ) (left : Num) → (0 < unsigned_abs divisor) × (x ≡ Some (units left)) → Yields {E = Code} fault_of (division divisor x) (λ (u : Unit {0}). number_text (units left)) (Ok tt)
quotient_left divisor x left h =
    subst (λ (p : Act Text). Yields {E = Code} fault_of p (λ (u : Unit {0}). number_text (units left)) (Ok tt)) (sym (division_by divisor x (Some (units left)) h.0 h.1)) (number_left (Some (units left)) left refl)

pub no_quotient : (divisor : ℤ) (x : Option ℤ) (left : Num) (fault : ArithFault) → Leaves divisor x left (Err fault) → Yields fault_of (division divisor x) (λ (u : Unit {0}). number_text (units left)) (Err (division_code fault))
no_quotient divisor x left arith.Zero none = rw (none_is_false divisor none) (record { ends = λ s. refl })
no_quotient divisor x left arith.Over h =
    subst (λ (p : Act Text). Yields fault_of p (λ (u : Unit {0}). number_text (units left)) (Err codes.Zover)) (sym (division_by divisor x None h.0 h.1)) (no_number_left None left refl)

-- ---- machine numbers

pub whole_fits : (z : ℤ) → unsigned_abs z < 10 ^ 18 → to_z w64 (of_z w64 z) ≡ z
whole_fits (pos n) below = omega (arith, ints, below)
whole_fits (negsuc n) below = omega (arith, ints, below)

pub width_fits : (width : Option ℤ) → IfSome width (λ n. unsigned_abs n < 10 ^ 18) → to_z w64 (of_z w64 (unwrap_or width (pos 0))) ≡ unwrap_or width (pos 0)
width_fits None below = refl
width_fits (Some n) below = whole_fits n below
