-- SPDX-License-Identifier: Apache-2.0
use Rattle.meval.proofs.EvalLaws.{refl, residual_is, evaluates_seen, evaluates_refused}
use Rattle.meval.proofs.eval.Eval.number.Goals as goal

pub returns-in_err-expression_number-clause-does : goal.returns-in_err-expression_number-clause-does
returns-in_err-expression_number-clause-does g c = rw (residual_is _ _ c.from_residual.ensures) (evaluates_refused _ c.in_err-expression_number.ensures.does)

pub returns-clause-does : goal.returns-clause-does
returns-clause-does g c = evaluates_seen c.in_ok-expression_number.field-0 _ refl c.in_ok-expression_number.ensures.does
