-- SPDX-License-Identifier: Apache-2.0
use Rattle.meval.proofs.EvalLaws.{refl, evaluates_then, evaluates_stopped, evaluates_gives}
use Rattle.meval.proofs.eval.Eval.read_or.Goals as goal

pub returns-in_err-value : goal.returns-in_err-value
returns-in_err-value g c = evaluates_stopped _ c.in_err-value.ensures c.from_residual.ensures

pub returns-in-Some : goal.returns-in-Some
returns-in-Some g c =
    let found = rw c.in-Some.is at c.in_ok-value.ensures in
    evaluates_then _ found (evaluates_gives _ _ _ refl)

pub returns-in-None : goal.returns-in-None
returns-in-None g c =
    let found = rw c.in-None.is at c.in_ok-value.ensures in
    evaluates_then _ found (evaluates_gives _ _ _ c.first_or_empty.ensures)
