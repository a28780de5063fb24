-- SPDX-License-Identifier: Apache-2.0
use Rattle.meval.proofs.EvalLaws.{sym, arith, nat_tests, decides_order_subscripts, not_empty}
use Rattle.meval.proofs.QueryRuns.{seeks, no_search}
use Rattle.meval.proofs.querying.check_search.Goals as goal

pub returns-then-is_empty-clause-checked : goal.returns-then-is_empty-clause-checked
returns-then-is_empty-clause-checked c = seeks c.args.values.now (λ some. absurd (grind (arith, nat_tests, c.if-is_empty.ensures, some)))

pub returns-then-is_empty-clause-search : goal.returns-then-is_empty-clause-search
returns-then-is_empty-clause-search c = λ some. absurd (grind (arith, nat_tests, c.if-is_empty.ensures, some))

pub returns-then-not-order_values_ok-clause-checked : goal.returns-then-not-order_values_ok-clause-checked
returns-then-not-order_values_ok-clause-checked c =
    let is = rw c.if-not-order_values_ok.true at (decides_order_subscripts _ _ c.order_values_ok.ensures) in
    no_search c.args.values.now (not_empty _ c.if-is_empty.ensures) (sym is)

pub returns-clause-checked : goal.returns-clause-checked
returns-clause-checked c = seeks c.args.values.now (λ some. c.order_values_ok.ensures.0 c.if-not-order_values_ok.false)

pub returns-clause-search : goal.returns-clause-search
returns-clause-search c = λ some. c.order_values_ok.ensures.0 c.if-not-order_values_ok.false
