-- SPDX-License-Identifier: Apache-2.0
use Rattle.meval.proofs.EvalLaws.{pending_view, units, evaluates_then, evaluates_stopped, evaluates_yielded}
use Rattle.mmeaning.specs.Variables.{increment_at, incremented}
use Rattle.meval.proofs.eval.Eval.increment_found.Goals as goal

pub returns-in_err-by : goal.returns-in_err-by
returns-in_err-by g c =
    evaluates_stopped (λ i by. incremented by (pending_view c.args.pending)) (evaluates_yielded c.in_err-by.ensures) c.from_residual.ensures

pub returns-in_err-place : goal.returns-in_err-place
returns-in_err-place g c =
    evaluates_then (λ i by. incremented by (pending_view c.args.pending)) (evaluates_yielded c.in_ok-by.ensures)
    (evaluates_stopped (λ i p. increment_at (units c.in_ok-by.by) p) c.in_err-place.ensures.does c.from_residual-in_err-place.ensures)

pub returns : goal.returns
returns g c =
    evaluates_then (λ i by. incremented by (pending_view c.args.pending)) (evaluates_yielded c.in_ok-by.ensures)
    (evaluates_then (λ i p. increment_at (units c.in_ok-by.by) p) c.in_ok-place.ensures.does c.increment_at.ensures)
