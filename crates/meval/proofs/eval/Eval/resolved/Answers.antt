-- SPDX-License-Identifier: Apache-2.0
use Rattle.meval.proofs.EvalLaws.{use_of, name_view, node_place, evaluates_then, evaluates_stopped, evaluates_yielded, as_local_place}
use Rattle.meval.proofs.eval.Eval.resolved.Goals as goal

pub returns-in-Local-clause-does : goal.returns-in-Local-clause-does
returns-in-Local-clause-does g c = rw c.in-Local.is (as_local_place c.args.mode (name_view c.in-Local.name) c.in-Local.values (evaluates_yielded c.local_place.ensures.checked))

pub returns-in-Global-clause-does : goal.returns-in-Global-clause-does
returns-in-Global-clause-does g c = rw c.in-Global.is c.node_place.ensures.does

pub returns-in_err-node-in-Naked-clause-does : goal.returns-in_err-node-in-Naked-clause-does
returns-in_err-node-in-Naked-clause-does g c = rw c.in-Naked.is (evaluates_stopped (λ i n. node_place (use_of c.args.mode) n) c.in_err-node-in-Naked.ensures c.from_residual.ensures)

pub returns-in_ok-node-in-Naked-clause-does : goal.returns-in_ok-node-in-Naked-clause-does
returns-in_ok-node-in-Naked-clause-does g c = rw c.in-Naked.is (evaluates_then (λ i n. node_place (use_of c.args.mode) n) c.in_ok-node-in-Naked.ensures c.node_place-in-Naked.ensures.does)
