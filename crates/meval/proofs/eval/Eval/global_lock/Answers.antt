-- SPDX-License-Identifier: Apache-2.0
use Rattle.meval.proofs.EvalLaws.{ap, ◌>>◌, give, unless, Node, LockName, are_subscripts, evaluates_then, evaluates_stopped, evaluates_gives}
use Rattle.meval.proofs.EvalLaws.{evaluates_yielded, global_name}
use Rattle.mspec.specs.Code as spec
use Rattle.meval.proofs.eval.Eval.global_lock.Goals as goal

pub returns-in_err-check-clause-does : goal.returns-in_err-check-clause-does
returns-in_err-check-clause-does g c =
    let n : Node = c.args.node.now in
    evaluates_stopped (λ i _. unless spec.Zsub (are_subscripts n.subscripts) >> give (global_name n)) c.in_err-check.ensures.does c.from_residual.ensures

pub returns-in_err-key-clause-does : goal.returns-in_err-key-clause-does
returns-in_err-key-clause-does g c =
    let n : Node = c.args.node.now in
    evaluates_then (λ i _. unless spec.Zsub (are_subscripts n.subscripts) >> give (global_name n)) c.in_ok-check.ensures.does
    (evaluates_stopped (λ i _. give (global_name n)) (evaluates_yielded c.in_err-key.ensures.checked) c.from_residual-in_err-key.ensures)

pub returns-clause-does : goal.returns-clause-does
returns-clause-does g c =
    let n : Node = c.args.node.now in
    evaluates_then (λ i _. unless spec.Zsub (are_subscripts n.subscripts) >> give (global_name n)) c.in_ok-check.ensures.does
    (evaluates_then (λ i _. give (global_name n)) (evaluates_yielded c.in_ok-key.ensures.checked)
    (evaluates_gives (global_name n) (λ (name : LockName). name) _ (ap global_name c.in_ok-key.ensures.key)))
