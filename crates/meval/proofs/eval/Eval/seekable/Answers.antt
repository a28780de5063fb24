-- SPDX-License-Identifier: Apache-2.0
use Rattle.meval.proofs.EvalLaws.{refl, evaluates_refused, evaluates_seen, evaluates_wanting, residual_is}
use Rattle.meval.proofs.eval.Eval.seekable.Goals as goal

pub returns-in_err-own : goal.returns-in_err-own
returns-in_err-own g c = evaluates_wanting _ _ _ c.from_residual.ensures

pub returns-in_err-walk : goal.returns-in_err-walk
returns-in_err-walk g c = rw (residual_is _ _ c.from_residual-in_err-walk.ensures) (evaluates_refused _ (rw c.in_ok-own.ensures at c.in_err-walk.ensures.does))

pub returns : goal.returns
returns g c = evaluates_seen _ _ refl (rw c.in_ok-own.ensures at c.in_ok-walk.ensures.does)
