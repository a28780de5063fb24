-- SPDX-License-Identifier: Apache-2.0
use Rattle.meval.proofs.EvalLaws.{Some, ap, ◌>>◌, give, set_naked, Node, at_node, checked, walk_view, evaluates_then, evaluates_stopped}
use Rattle.meval.proofs.EvalLaws.{evaluates_gives, evaluates_yielded, evaluates_wanting}
use Rattle.mmeaning.specs.Variables.{querying}
use Rattle.meval.proofs.eval.Eval.node_sought.Goals as goal

pub returns-in_err-check-clause-does : goal.returns-in_err-check-clause-does
returns-in_err-check-clause-does g c =
    let n : Node = c.args.node in
    evaluates_stopped (λ i _. checked querying n.subscripts >> (set_naked (Some n) >> give (at_node n))) c.in_err-check.ensures.does c.from_residual.ensures

pub returns-in_err-check_search-clause-does : goal.returns-in_err-check_search-clause-does
returns-in_err-check_search-clause-does g c =
    let n : Node = c.args.node in
    let refused = rw c.subscripts.ensures at c.in_err-check_search.ensures.checked in
    evaluates_then (λ i _. checked querying n.subscripts >> (set_naked (Some n) >> give (at_node n))) c.in_ok-check.ensures.does
    (evaluates_stopped (λ i _. set_naked (Some n) >> give (at_node n)) (evaluates_yielded refused) c.from_residual-in_err-check_search.ensures)

pub returns-in_err-walk-clause-does : goal.returns-in_err-walk-clause-does
returns-in_err-walk-clause-does g c =
    let n : Node = c.args.node in
    let passed = rw c.subscripts.ensures at c.in_ok-check_search.ensures.checked in
    evaluates_then (λ i _. checked querying n.subscripts >> (set_naked (Some n) >> give (at_node n))) c.in_ok-check.ensures.does
    (evaluates_then (λ i _. set_naked (Some n) >> give (at_node n)) (evaluates_yielded passed) (evaluates_wanting _ _ _ c.from_residual-in_err-walk.ensures))

pub returns-in_err-refer-clause-does : goal.returns-in_err-refer-clause-does
returns-in_err-refer-clause-does g c =
    let n : Node = c.args.node in
    let passed = rw c.subscripts.ensures at c.in_ok-check_search.ensures.checked in
    evaluates_then (λ i _. checked querying n.subscripts >> (set_naked (Some n) >> give (at_node n))) c.in_ok-check.ensures.does
    (evaluates_then (λ i _. set_naked (Some n) >> give (at_node n)) (evaluates_yielded passed)
    (evaluates_stopped (λ i _. give (at_node n)) c.in_err-refer.ensures.does c.from_residual-in_err-refer.ensures))

pub returns-clause-does : goal.returns-clause-does
returns-clause-does g c =
    let n : Node = c.args.node in
    let passed = rw c.subscripts.ensures at c.in_ok-check_search.ensures.checked in
    evaluates_then (λ i _. checked querying n.subscripts >> (set_naked (Some n) >> give (at_node n))) c.in_ok-check.ensures.does
    (evaluates_then (λ i _. set_naked (Some n) >> give (at_node n)) (evaluates_yielded passed)
    (evaluates_then (λ i _. give (at_node n)) c.in_ok-refer.ensures.does (evaluates_gives (at_node n) walk_view _ (ap at_node c.in_ok-walk.ensures))))
