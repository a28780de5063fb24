-- SPDX-License-Identifier: Apache-2.0
use Rattle.meval.proofs.EvalLaws.{named_lock, evaluates_then, evaluates_stopped}
use Rattle.meval.proofs.eval.Eval.lock_name.Goals as goal

pub returns-in_err-pending-clause-does : goal.returns-in_err-pending-clause-does
returns-in_err-pending-clause-does g c = evaluates_stopped (λ i v. named_lock i.account v) c.in_err-pending.ensures c.from_residual.ensures

pub returns-clause-does : goal.returns-clause-does
returns-clause-does g c = evaluates_then (λ i v. named_lock i.account v) c.in_ok-pending.ensures c.named_lock.ensures.does
