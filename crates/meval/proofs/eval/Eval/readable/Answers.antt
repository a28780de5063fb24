-- SPDX-License-Identifier: Apache-2.0
use Rattle.meval.proofs.EvalLaws.{node_place, reading, evaluates_then, evaluates_stopped, evaluates_yielded}
use Rattle.meval.proofs.eval.Eval.readable.Goals as goal

pub returns-in-Local : goal.returns-in-Local
returns-in-Local g c = rw c.in-Local.is (evaluates_yielded c.readable_local.ensures)

pub returns-in-Global : goal.returns-in-Global
returns-in-Global g c = rw c.in-Global.is c.node_readable.ensures

pub returns-in_err-node-in-Naked : goal.returns-in_err-node-in-Naked
returns-in_err-node-in-Naked g c = rw c.in-Naked.is (evaluates_stopped (λ i n. node_place reading n) c.in_err-node-in-Naked.ensures c.from_residual.ensures)

pub returns-in_ok-node-in-Naked : goal.returns-in_ok-node-in-Naked
returns-in_ok-node-in-Naked g c = rw c.in-Naked.is (evaluates_then (λ i n. node_place reading n) c.in_ok-node-in-Naked.ensures c.node_readable-in-Naked.ensures)
