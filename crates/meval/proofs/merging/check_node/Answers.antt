-- SPDX-License-Identifier: Apache-2.0
use Rattle.meval.proofs.EvalLaws.{decides_subscripts}
use Rattle.meval.proofs.MergeRuns.{node_passes, no_node}
use Rattle.meval.proofs.merging.check_node.Goals as goal

pub returns-then-not-values_ok-clause-checked : goal.returns-then-not-values_ok-clause-checked
returns-then-not-values_ok-clause-checked c =
    let is = rw c.if-not-values_ok.true at (decides_subscripts _ _ c.values_ok.ensures) in
    no_node c.args.values.now is

pub returns-clause-checked : goal.returns-clause-checked
returns-clause-checked c = node_passes c.args.values.now (c.values_ok.ensures.0 c.if-not-values_ok.false)

pub returns-clause-node : goal.returns-clause-node
returns-clause-node c = c.values_ok.ensures.0 c.if-not-values_ok.false
