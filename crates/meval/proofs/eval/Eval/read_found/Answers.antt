-- SPDX-License-Identifier: Apache-2.0
use Rattle.meval.proofs.EvalLaws.{read_at, evaluates_then, evaluates_stopped}
use Rattle.meval.proofs.eval.Eval.read_found.Goals as goal

pub returns-in_err-place : goal.returns-in_err-place
returns-in_err-place g c = evaluates_stopped (λ i p. read_at p) c.in_err-place.ensures.does c.from_residual.ensures

pub returns : goal.returns
returns g c = evaluates_then (λ i p. read_at p) c.in_ok-place.ensures.does c.read.ensures
