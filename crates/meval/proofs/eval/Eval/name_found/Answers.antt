-- SPDX-License-Identifier: Apache-2.0
use Rattle.meval.proofs.EvalLaws.{pending_view, evaluates_then, evaluates_stopped, evaluates_yielded}
use Rattle.meval.proofs.EvalWords.{named}
use Rattle.meval.proofs.eval.Eval.name_found.Goals as goal

pub returns-in_err-most : goal.returns-in_err-most
returns-in_err-most g c =
    evaluates_stopped (λ i most. named i.account most (pending_view c.args.pending)) (evaluates_yielded c.in_err-most.ensures.whole) c.from_residual.ensures

pub returns : goal.returns
returns g c =
    evaluates_then (λ i most. named i.account most (pending_view c.args.pending)) (evaluates_yielded c.in_ok-most.ensures.whole) c.named_pending.ensures
