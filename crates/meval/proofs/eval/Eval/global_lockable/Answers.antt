-- SPDX-License-Identifier: Apache-2.0
use Rattle.meval.proofs.EvalLaws.{◌>>◌, give, unless, Node, are_subscripts, evaluates_then, evaluates_stopped, evaluates_yielded, global_name}
use Rattle.mspec.specs.Code as spec
use Rattle.meval.proofs.eval.Eval.global_lockable.Goals as goal

pub returns-in_err-check : goal.returns-in_err-check
returns-in_err-check g c =
    let n : Node = c.args.named.now in
    evaluates_stopped (λ i _. unless spec.Zsub (are_subscripts n.subscripts) >> give (global_name n)) c.in_err-check.ensures.does c.from_residual.ensures

pub returns : goal.returns
returns g c =
    let n : Node = c.args.named.now in
    evaluates_then (λ i _. unless spec.Zsub (are_subscripts n.subscripts) >> give (global_name n)) c.in_ok-check.ensures.does
    (evaluates_yielded c.lockable_at.ensures)
