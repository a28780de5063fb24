-- SPDX-License-Identifier: Apache-2.0
use Rattle.meval.proofs.EvalLaws.{[], ap, ◌∙◌, unwrap_or, give, name_view, Option, Text, next_subscript, way, evaluates_then, evaluates_stopped}
use Rattle.meval.proofs.EvalLaws.{evaluates_gives, asks_locals}
use Rattle.meval.proofs.eval.Eval.next.Goals as goal

pub returns-in_ok-next-in-Local : goal.returns-in_ok-next-in-Local
returns-in_ok-next-in-Local g c =
    let next = rw (c.as_slice.ensures, c.as_name.ensures) at c.in_ok-next-in-Local.ensures in
    let is = c.next_value.ensures ∙ ap (λ (o : Option Text). unwrap_or o []) next in
    rw c.in-Local.is (asks_locals (λ l. unwrap_or (next_subscript l (way c.args.direction) (name_view c.in-Local.name) c.in-Local.values) []) (λ v. v) _ is)

pub returns-in_err-next-in-Node : goal.returns-in_err-next-in-Node
returns-in_err-next-in-Node g c =
    let asked = rw (c.account-account.ensures, c.as_bytes7-name.ensures.text, c.name.ensures, c.subscripts-subscripts.ensures) at c.in_err-next-in-Node.ensures in
    rw c.in-Node.is (evaluates_stopped (λ i next. give (unwrap_or next [])) asked c.from_residual-in_err-next-in-Node.ensures)

pub returns-in_ok-next-in-Node : goal.returns-in_ok-next-in-Node
returns-in_ok-next-in-Node g c =
    let asked = rw (c.account-account.ensures, c.as_bytes7-name.ensures.text, c.name.ensures, c.subscripts-subscripts.ensures) at c.in_ok-next-in-Node.ensures in
    rw c.in-Node.is (evaluates_then (λ i next. give (unwrap_or next [])) asked (evaluates_gives _ _ _ c.next_value-in-Node.ensures))
