-- SPDX-License-Identifier: Apache-2.0
use Rattle.meval.proofs.EvalLaws.{ap, of_global, pending_view, evaluates_wanting, gives_own}
use Rattle.meval.proofs.eval.Eval.own_found.Goals as goal

pub returns-in_err-copy : goal.returns-in_err-copy
returns-in_err-copy g c = evaluates_wanting _ _ _ c.from_residual.ensures

pub returns : goal.returns
returns g c =
    let node = rw (c.of_vec.ensures, c.in_ok-copy.ensures) at c.own_node-node.ensures in
    gives_own pending_view c.args.name.now c.args.values.items _ (ap of_global node)
