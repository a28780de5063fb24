-- SPDX-License-Identifier: Apache-2.0
use Rattle.meval.proofs.EvalLaws.{give, name_view, evaluates_stopped, evaluates_yielded, local_name}
use Rattle.meval.proofs.eval.Eval.local_lock.Goals as goal

pub returns-in_err-key-clause-does : goal.returns-in_err-key-clause-does
returns-in_err-key-clause-does g c =
    let refused = rw c.own_node-node.ensures at c.in_err-key.ensures.checked in
    evaluates_stopped (λ i _. give (local_name i.account (name_view c.args.name) c.args.values)) (evaluates_yielded refused) c.from_residual.ensures
