-- SPDX-License-Identifier: Apache-2.0
use Rattle.meval.proofs.EvalLaws.{data_at, give, whole_text, pos, data_number, evaluates_then, evaluates_stopped, evaluates_gives}
use Rattle.meval.proofs.eval.Eval.data_found.Goals as goal

pub returns-in_err-place : goal.returns-in_err-place
returns-in_err-place g c = evaluates_stopped (λ i p. data_at p) c.in_err-place.ensures.does c.from_residual.ensures

pub returns-in_err-data : goal.returns-in_err-data
returns-in_err-data g c =
    evaluates_then (λ i p. data_at p) c.in_ok-place.ensures.does
    (evaluates_stopped (λ i status. give (whole_text (pos (data_number status)))) c.in_err-data.ensures c.from_residual-in_err-data.ensures)

pub returns : goal.returns
returns g c =
    evaluates_then (λ i p. data_at p) c.in_ok-place.ensures.does
    (evaluates_then (λ i status. give (whole_text (pos (data_number status)))) c.in_ok-data.ensures (evaluates_gives _ _ _ c.data_value.ensures))
