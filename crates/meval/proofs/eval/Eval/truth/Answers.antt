-- SPDX-License-Identifier: Apache-2.0
use Rattle.meval.proofs.Calls.{evaluates_then, evaluates_stopped, evaluates_yielded}
use Rattle.meval.proofs.eval.Eval.truth.Goals as goal

pub returns-in_err-value-clause-does : goal.returns-in_err-value-clause-does
returns-in_err-value-clause-does g c = evaluates_stopped _ c.in_err-value.ensures.does c.from_residual.ensures

pub returns-clause-does : goal.returns-clause-does
returns-clause-does g c = evaluates_then _ c.in_ok-value.ensures.does (evaluates_yielded c.truth_of.ensures.truth)
