-- SPDX-License-Identifier: Apache-2.0
use Rattle.meval.proofs.EvalLaws.{sym, refl, residual_is, at_hand_tree, computed_outcome, evaluates_then, evaluates_seen, evaluates_refused, evaluates_wanting}
use Rattle.meval.proofs.EvalLaws.{evaluates_yielded, variable_primary, charge_failed}
use Rattle.meval.proofs.eval.Eval.fast_value.Goals as goal

pub returns-in_err-charge-clause-does : goal.returns-in_err-charge-clause-does
returns-in_err-charge-clause-does g c = rw (residual_is _ _ c.from_residual.ensures) (evaluates_refused _ (charge_failed (at_hand_tree c.args.at_hand) _ c.in_err-charge.ensures.does))

pub returns-in_err-place-in-Number-clause-does : goal.returns-in_err-place-in-Number-clause-does
returns-in_err-place-in-Number-clause-does g c =
    let k = computed_outcome _ _ c.number.ensures c.in_err-place-in-Number.ensures.value in
    rw (residual_is _ _ c.from_residual-in_err-place-in-Number.ensures, c.in-Number.is) (evaluates_then _ c.in_ok-charge.ensures.does (evaluates_refused _ (evaluates_yielded k)))

pub returns-in_ok-place-in-Number-clause-does : goal.returns-in_ok-place-in-Number-clause-does
returns-in_ok-place-in-Number-clause-does g c =
    let k = computed_outcome _ _ c.number.ensures c.in_ok-place-in-Number.ensures.value in
    rw c.in-Number.is (evaluates_then _ c.in_ok-charge.ensures.does (evaluates_seen _ tt refl (evaluates_yielded k)))

pub returns-in_err-value-in-Variable-clause-does : goal.returns-in_err-value-in-Variable-clause-does
returns-in_err-value-in-Variable-clause-does g c =
    rw (residual_is _ _ c.from_residual-in_err-value-in-Variable.ensures, c.in-Variable.is) (variable_primary _ c.in_ok-charge.ensures.does (evaluates_refused _ c.in_err-value-in-Variable.ensures))

pub returns-in_err-place-in-Variable-clause-does : goal.returns-in_err-place-in-Variable-clause-does
returns-in_err-place-in-Variable-clause-does g c =
    rw c.in-Variable.is (variable_primary _ c.in_ok-charge.ensures.does (evaluates_wanting _ _ _ c.from_residual-in_err-place-in-Variable.ensures))

pub returns-in_ok-place-in-Variable-clause-does : goal.returns-in_ok-place-in-Variable-clause-does
returns-in_ok-place-in-Variable-clause-does g c =
    rw c.in-Variable.is (variable_primary _ c.in_ok-charge.ensures.does (evaluates_seen _ tt (sym c.in_ok-place-in-Variable.ensures) c.in_ok-value-in-Variable.ensures))
