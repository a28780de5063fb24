-- SPDX-License-Identifier: Apache-2.0
use Rattle.mcommand.proofs.CommandLaws.{◌≡◌, Bool, true, Some, None, Result, Ok, Err, MatchResult, refl, sym, give, units, ℤ, Num, does_then, does_stopped}
use Rattle.mcommand.proofs.CommandLaws.{does_gives, does_evaluated, does_yielded}
use Rattle.mspec.specs.Number.{sum_of}
use Rattle.mnum.specs.declared.num.Over.{Over}
use Rattle.moperator.specs.Outcomes.{outcome_units}
use Rattle.mcommand.proofs.parts.Parts.add.Goals as goal

sum_units : (a b : ℤ) (r : Result Num Over) → MatchResult r (λ n. sum_of a b ≡ Some (units n)) (λ _. sum_of a b ≡ None) → outcome_units r ≡ sum_of a b
sum_units a b (Ok n) e = sym e
sum_units a b (Err over) e = sym e

pub returns-in_err-next : goal.returns-in_err-next
returns-in_err-next g c =
    let next = rw (sum_units (units c.args.number) (units c.args.by) c.add.result c.add.ensures) at c.in_err-next.ensures.value in
    does_stopped _ (does_yielded next) c.from_residual.ensures

pub returns-in_err-set_variable : goal.returns-in_err-set_variable
returns-in_err-set_variable g c =
    let next = rw (sum_units (units c.args.number) (units c.args.by) c.add.result c.add.ensures) at c.in_ok-next.ensures.value in
    does_then _ (does_yielded next) (does_stopped (λ i _. give true) (does_evaluated c.in_err-set_variable.ensures) c.from_residual-in_err-set_variable.ensures)

pub returns : goal.returns
returns g c =
    let next = rw (sum_units (units c.args.number) (units c.args.by) c.add.result c.add.ensures) at c.in_ok-next.ensures.value in
    does_then _ (does_yielded next) (does_then (λ i _. give true) (does_evaluated c.in_ok-set_variable.ensures) (does_gives true (λ (b : Bool). b) true refl))
