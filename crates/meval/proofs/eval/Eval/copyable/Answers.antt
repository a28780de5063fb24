-- SPDX-License-Identifier: Apache-2.0
use Rattle.meval.proofs.EvalLaws.{refl, give, at_local, name_view, walk_view, use_of, evaluates_then, evaluates_stopped, evaluates_gives}
use Rattle.meval.proofs.EvalLaws.{evaluates_yielded}
use Rattle.mmeaning.specs.Merging.{node_sought}
use Rattle.meval.proofs.MergeRuns.{as_local_sought}
use Rattle.meval.proofs.eval.Eval.copyable.Goals as goal

pub returns-in_err-check_node-in-Local-clause-does : goal.returns-in_err-check_node-in-Local-clause-does
returns-in_err-check_node-in-Local-clause-does g c =
    let refused = rw c.as_slice.ensures at c.in_err-check_node-in-Local.ensures.checked in
    rw c.in-Local.is
    (as_local_sought c.args.mode (name_view c.in-Local.name) c.in-Local.values
    (evaluates_stopped (λ i _. give (at_local (name_view c.in-Local.name) c.in-Local.values)) (evaluates_yielded refused) c.from_residual.ensures))

pub returns-in_ok-check_node-in-Local-clause-does : goal.returns-in_ok-check_node-in-Local-clause-does
returns-in_ok-check_node-in-Local-clause-does g c =
    let passed = rw c.as_slice.ensures at c.in_ok-check_node-in-Local.ensures.checked in
    rw c.in-Local.is
    (as_local_sought c.args.mode (name_view c.in-Local.name) c.in-Local.values
    (evaluates_then (λ i _. give (at_local (name_view c.in-Local.name) c.in-Local.values)) (evaluates_yielded passed)
    (evaluates_gives (at_local (name_view c.in-Local.name) c.in-Local.values) walk_view _ refl)))

pub returns-in-Global-clause-does : goal.returns-in-Global-clause-does
returns-in-Global-clause-does g c = rw c.in-Global.is c.node_copyable.ensures.does

pub returns-in_err-node-in-Naked-clause-does : goal.returns-in_err-node-in-Naked-clause-does
returns-in_err-node-in-Naked-clause-does g c =
    rw c.in-Naked.is
    (evaluates_stopped (λ i n. node_sought (use_of c.args.mode) n) c.in_err-node-in-Naked.ensures c.from_residual-in_err-node-in-Naked.ensures)

pub returns-in_ok-node-in-Naked-clause-does : goal.returns-in_ok-node-in-Naked-clause-does
returns-in_ok-node-in-Naked-clause-does g c =
    rw c.in-Naked.is
    (evaluates_then (λ i n. node_sought (use_of c.args.mode) n) c.in_ok-node-in-Naked.ensures c.node_copyable-in-Naked.ensures.does)
