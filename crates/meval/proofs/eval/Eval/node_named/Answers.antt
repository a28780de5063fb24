-- SPDX-License-Identifier: Apache-2.0
use Rattle.meval.proofs.EvalLaws.{evaluates_owned, evaluates_wanting, node_named}
use Rattle.meval.proofs.eval.Eval.node_named.Goals as goal

pub returns-in_err-front : goal.returns-in_err-front
returns-in_err-front g c = evaluates_wanting _ _ _ c.from_residual.ensures

pub returns : goal.returns
returns g c =
    let named = rw (c.in_ok-front.ensures, c.subscripts.ensures) at c.name_text.ensures in
    evaluates_owned (λ me. node_named me c.args.most c.args.node.now) named
