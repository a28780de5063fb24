-- SPDX-License-Identifier: Apache-2.0
use Rattle.meval.proofs.EvalLaws.{sym, residual_is, evaluates_refused, evaluates_seen, evaluates_stopped, evaluates_then, evaluates_yielded}
use Rattle.mmeaning.specs.Operators.{raised}
use Rattle.meval.proofs.eval.Eval.raise.Goals as goal

pub returns-in_err-base : goal.returns-in_err-base
returns-in_err-base g c = evaluates_stopped (λ i n. raised n.0 n.1) (evaluates_yielded c.in_err-base.ensures) c.from_residual.ensures

pub returns-in_err-repeat : goal.returns-in_err-repeat
returns-in_err-repeat g c =
    let does = rw (c.operator_of.ensures, c.times_of.ensures, c.from_whole-power.ensures) at c.in_err-repeat.ensures in
    rw (residual_is _ _ c.from_residual-in_err-repeat.ensures) (evaluates_then (λ i n. raised n.0 n.1) (evaluates_yielded c.in_ok-base.ensures) (evaluates_refused _ does))

pub returns : goal.returns
returns g c =
    let does = rw (c.operator_of.ensures, c.times_of.ensures, c.from_whole-power.ensures) at c.in_ok-repeat.ensures in
    evaluates_then (λ i n. raised n.0 n.1) (evaluates_yielded c.in_ok-base.ensures) (evaluates_seen tt tt (sym c.of_number.ensures) does)
