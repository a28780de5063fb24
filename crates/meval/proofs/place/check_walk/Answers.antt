-- SPDX-License-Identifier: Apache-2.0
use Rattle.meval.proofs.EvalLaws.{sym, decides_order_subscripts, walks, no_walk, not_empty}
use Rattle.meval.proofs.place.check_walk.Goals as goal

pub returns-then-not-order_values_ok-clause-checked : goal.returns-then-not-order_values_ok-clause-checked
returns-then-not-order_values_ok-clause-checked c =
    let is = rw c.if-not-order_values_ok.true at (decides_order_subscripts _ _ c.order_values_ok.ensures) in
    no_walk c.args.values.now (not_empty _ c.if-is_empty.ensures) (sym is)

pub returns-clause-checked : goal.returns-clause-checked
returns-clause-checked c = walks c.args.values.now (c.order_values_ok.ensures.0 c.if-not-order_values_ok.false)
