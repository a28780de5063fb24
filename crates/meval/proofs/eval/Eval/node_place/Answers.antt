-- SPDX-License-Identifier: Apache-2.0
use Rattle.meval.proofs.EvalLaws.{Some, ap, ◌>>◌, give, unless, set_naked, Node, are_subscripts, at_node, place_view, evaluates_then, evaluates_stopped}
use Rattle.meval.proofs.EvalLaws.{evaluates_gives, evaluates_yielded, as_node_place}
use Rattle.mspec.specs.Code as spec
use Rattle.meval.proofs.eval.Eval.node_place.Goals as goal

pub returns-in_err-check-clause-does : goal.returns-in_err-check-clause-does
returns-in_err-check-clause-does g c =
    let n : Node = c.args.node in
    as_node_place c.args.mode n (evaluates_stopped (λ i _. unless spec.Zsub (are_subscripts n.subscripts) >> (set_naked (Some n) >> give (at_node n))) c.in_err-check.ensures.does c.from_residual.ensures)

pub returns-in_err-key-clause-does : goal.returns-in_err-key-clause-does
returns-in_err-key-clause-does g c =
    let n : Node = c.args.node in
    as_node_place c.args.mode n
    (evaluates_then (λ i _. unless spec.Zsub (are_subscripts n.subscripts) >> (set_naked (Some n) >> give (at_node n))) c.in_ok-check.ensures.does
    (evaluates_stopped (λ i _. set_naked (Some n) >> give (at_node n)) (evaluates_yielded c.in_err-key.ensures.checked) c.from_residual-in_err-key.ensures))

pub returns-in_err-refer-clause-does : goal.returns-in_err-refer-clause-does
returns-in_err-refer-clause-does g c =
    let n : Node = c.args.node in
    as_node_place c.args.mode n
    (evaluates_then (λ i _. unless spec.Zsub (are_subscripts n.subscripts) >> (set_naked (Some n) >> give (at_node n))) c.in_ok-check.ensures.does
    (evaluates_then (λ i _. set_naked (Some n) >> give (at_node n)) (evaluates_yielded c.in_ok-key.ensures.checked)
    (evaluates_stopped (λ i _. give (at_node n)) c.in_err-refer.ensures.does c.from_residual-in_err-refer.ensures)))

pub returns-clause-does : goal.returns-clause-does
returns-clause-does g c =
    let n : Node = c.args.node in
    as_node_place c.args.mode n
    (evaluates_then (λ i _. unless spec.Zsub (are_subscripts n.subscripts) >> (set_naked (Some n) >> give (at_node n))) c.in_ok-check.ensures.does
    (evaluates_then (λ i _. set_naked (Some n) >> give (at_node n)) (evaluates_yielded c.in_ok-key.ensures.checked)
    (evaluates_then (λ i _. give (at_node n)) c.in_ok-refer.ensures.does (evaluates_gives (at_node n) place_view _ (ap at_node c.in_ok-key.ensures.key)))))
