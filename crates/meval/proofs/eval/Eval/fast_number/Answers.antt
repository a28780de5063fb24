-- SPDX-License-Identifier: Apache-2.0
use Rattle.meval.proofs.EvalLaws.{refl, residual_is, as_number, at_hand_tree, evaluates_then, evaluates_failed, evaluates_seen, evaluates_refused}
use Rattle.meval.proofs.EvalLaws.{evaluates_yielded, number_read, variable_primary, number_told, number_refused, charge_failed}
use Rattle.meval.proofs.eval.Eval.fast_number.Goals as goal

pub returns-in_err-charge-clause-does : goal.returns-in_err-charge-clause-does
returns-in_err-charge-clause-does g c =
    rw (residual_is _ _ c.from_residual.ensures) (evaluates_failed (λ i. as_number) (charge_failed (at_hand_tree c.args.at_hand) _ c.in_err-charge.ensures.does))

pub returns-in-Some-clause-does : goal.returns-in-Some-clause-does
returns-in-Some-clause-does g c =
    let is = rw c.in-Some.is at c.as_number.ensures in
    rw c.in-Number.is (number_read c.in-Some.number.now (number_told c.in-Number.literal.now c.in-Some.number.now is c.in_ok-charge.ensures.does))

pub returns-in-None-clause-does : goal.returns-in-None-clause-does
returns-in-None-clause-does g c =
    let is = rw c.in-None.is at c.as_number.ensures in
    rw c.in-Number.is (evaluates_failed (λ i. as_number) (number_refused c.in-Number.literal.now is c.in_ok-charge.ensures.does))

pub returns-in_err-value-in-Variable-clause-does : goal.returns-in_err-value-in-Variable-clause-does
returns-in_err-value-in-Variable-clause-does g c =
    rw (residual_is _ _ c.from_residual-in_err-value-in-Variable.ensures, c.in-Variable.is)
    (evaluates_failed (λ i. as_number) (variable_primary _ c.in_ok-charge.ensures.does c.in_err-value-in-Variable.ensures))

pub returns-in_err-place-in-Variable-clause-does : goal.returns-in_err-place-in-Variable-clause-does
returns-in_err-place-in-Variable-clause-does g c =
    rw (residual_is _ _ c.from_residual-in_err-place-in-Variable.ensures, c.in-Variable.is)
    (evaluates_then (λ i. as_number) (variable_primary _ c.in_ok-charge.ensures.does c.in_ok-value-in-Variable.ensures) (evaluates_refused _ (evaluates_yielded c.in_err-place-in-Variable.ensures.number)))

pub returns-in_ok-place-in-Variable-clause-does : goal.returns-in_ok-place-in-Variable-clause-does
returns-in_ok-place-in-Variable-clause-does g c =
    rw c.in-Variable.is
    (evaluates_then (λ i. as_number) (variable_primary _ c.in_ok-charge.ensures.does c.in_ok-value-in-Variable.ensures) (evaluates_seen _ tt refl (evaluates_yielded c.in_ok-place-in-Variable.ensures.number)))
