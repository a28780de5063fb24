-- SPDX-License-Identifier: Apache-2.0
use Rattle.meval.proofs.EvalLaws.{[], way, evaluates_then, evaluates_gives, evaluates_yielded, evaluates_wanting, asks_locals}
use Rattle.mspec.specs.Scopes.{next_node}
use Rattle.mmeaning.specs.Variables.{found_named}
use Rattle.meval.proofs.eval.Eval.local_query.Goals as goal

pub returns-in-None : goal.returns-in-None
returns-in-None g c =
    let found = rw c.in-None.is at c.in_ok-next.ensures in
    evaluates_then (λ i found. found_named c.args.name.now found)
    (asks_locals (λ l. next_node l (way c.args.direction) c.args.name.now c.args.subscripts.now) (λ found. found) _ found)
    (evaluates_gives [] (λ v. v) _ c.next_value.ensures)

pub returns-in_err-front-in-Some : goal.returns-in_err-front-in-Some
returns-in_err-front-in-Some g c =
    let found = rw c.in-Some.is at c.in_ok-next.ensures in
    evaluates_then (λ i found. found_named c.args.name.now found)
    (asks_locals (λ l. next_node l (way c.args.direction) c.args.name.now c.args.subscripts.now) (λ found. found) _ found)
    (evaluates_wanting _ _ _ c.from_residual-in_err-front-in-Some.ensures)

pub returns-in_ok-front-in-Some : goal.returns-in_ok-front-in-Some
returns-in_ok-front-in-Some g c =
    let found = rw c.in-Some.is at c.in_ok-next.ensures in
    let named = rw (c.in_ok-front-in-Some.ensures, c.as_bytes7.ensures.text, c.as_slice.ensures) at c.found_name.ensures in
    evaluates_then (λ i found. found_named c.args.name.now found)
    (asks_locals (λ l. next_node l (way c.args.direction) c.args.name.now c.args.subscripts.now) (λ found. found) _ found)
    (evaluates_yielded named)
