-- SPDX-License-Identifier: Apache-2.0
use Rattle.meval.proofs.EvalLaws.{refl, give, Node, at_node, checked, walk_view, reading, ◌>>◌, evaluates_then, evaluates_stopped, evaluates_gives}
use Rattle.meval.proofs.EvalLaws.{evaluates_yielded}
use Rattle.meval.proofs.MergeRuns.{as_node_sought}
use Rattle.meval.proofs.eval.Eval.node_copyable.Goals as goal

pub returns-in_err-check-clause-does : goal.returns-in_err-check-clause-does
returns-in_err-check-clause-does g c =
    let n : Node = c.args.node in
    as_node_sought c.args.mode n
    (evaluates_stopped (λ i _. checked reading n.subscripts >> give (at_node n)) c.in_err-check.ensures.does c.from_residual.ensures)

pub returns-in_err-check_node-clause-does : goal.returns-in_err-check_node-clause-does
returns-in_err-check_node-clause-does g c =
    let n : Node = c.args.node in
    let refused = rw c.subscripts.ensures at c.in_err-check_node.ensures.checked in
    as_node_sought c.args.mode n
    (evaluates_then (λ i _. checked reading n.subscripts >> give (at_node n)) c.in_ok-check.ensures.does
    (evaluates_stopped (λ i _. give (at_node n)) (evaluates_yielded refused) c.from_residual-in_err-check_node.ensures))

pub returns-clause-does : goal.returns-clause-does
returns-clause-does g c =
    let n : Node = c.args.node in
    let passed = rw c.subscripts.ensures at c.in_ok-check_node.ensures.checked in
    as_node_sought c.args.mode n
    (evaluates_then (λ i _. checked reading n.subscripts >> give (at_node n)) c.in_ok-check.ensures.does
    (evaluates_then (λ i _. give (at_node n)) (evaluates_yielded passed) (evaluates_gives (at_node n) walk_view _ refl)))
