-- SPDX-License-Identifier: Apache-2.0
use Rattle.meval.proofs.EvalLaws.{evaluates_stopped, evaluates_then, evaluates_wanting, name_view, named_local, node_named}
use Rattle.meval.proofs.eval.Eval.named_pending.Goals as goal

pub returns-in_err-front-in-Local : goal.returns-in_err-front-in-Local
returns-in_err-front-in-Local g c = evaluates_wanting _ _ _ c.from_residual.ensures

pub returns-in_ok-front-in-Local : goal.returns-in_ok-front-in-Local
returns-in_ok-front-in-Local g c =
    let named = rw (c.in_ok-front-in-Local.ensures, c.as_bytes7.ensures.text, c.as_name.ensures, c.as_slice.ensures) at c.name_text.ensures in
    rw c.in-Local.is (named_local (name_view c.in-Local.name) c.in-Local.values c.args.most named)

pub returns-in-Global : goal.returns-in-Global
returns-in-Global g c = rw c.in-Global.is c.node_named.ensures

pub returns-in_err-node-in-Naked : goal.returns-in_err-node-in-Naked
returns-in_err-node-in-Naked g c =
    rw c.in-Naked.is (evaluates_stopped (λ i n. node_named i.account c.args.most n) c.in_err-node-in-Naked.ensures c.from_residual-in_err-node-in-Naked.ensures)

pub returns-in_ok-node-in-Naked : goal.returns-in_ok-node-in-Naked
returns-in_ok-node-in-Naked g c =
    rw c.in-Naked.is (evaluates_then (λ i n. node_named i.account c.args.most n) c.in_ok-node-in-Naked.ensures c.node_named-in-Naked.ensures)
