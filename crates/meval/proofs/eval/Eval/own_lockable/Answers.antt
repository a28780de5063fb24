-- SPDX-License-Identifier: Apache-2.0
use Rattle.meval.proofs.EvalLaws.{name_view, named_lock, of_local, evaluates_owned}
use Rattle.meval.proofs.eval.Eval.own_lockable.Goals as goal

pub returns : goal.returns
returns g c =
    let named = rw c.own_node-node.ensures at c.lockable_at.ensures in
    evaluates_owned (λ me. named_lock me (of_local (name_view c.args.name) c.args.values)) named
