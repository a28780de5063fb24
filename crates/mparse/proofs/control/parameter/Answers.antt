-- SPDX-License-Identifier: Apache-2.0
use Rattle.mparse.proofs.ParseWords.{◌≡◌, ◌∙◌, ap, rules, common_steps, Expr, parameter_at}
use Rattle.mparse.proofs.control.parameter.Goals as goal

pub returns-in_err-start-2 : goal.returns-in_err-start-2
unfolding parameter_at
returns-in_err-start-2 c =
    let read = rw c.in_err-start-2.ensures.fault at c.expr-2.ensures in
    search (rules, common_steps)

pub returns-in_default-past : goal.returns-in_default-past
unfolding parameter_at
returns-in_default-past c =
    let read = rw c.in_ok-start-2.ensures.value.1 at c.expr-2.ensures in
    rw c.in_ok-start-2.ensures.value.0 (search (rules, common_steps))

pub returns-in_err-start-3 : goal.returns-in_err-start-3
unfolding parameter_at
returns-in_err-start-3 c =
    let first = rw c.in_ok-start-2.ensures.value.1 at c.expr-2.ensures in
    let read = rw c.in_err-start-3.ensures.fault at c.expr-3.ensures in
    search (rules, common_steps)

pub returns : goal.returns
unfolding parameter_at
returns c =
    let first = rw c.in_ok-start-2.ensures.value.1 at c.expr-2.ensures in
    let read = rw c.in_ok-start-3.ensures.value.1 at c.expr-3.ensures in
    let start : c.in_ok-start-3.start ≡ c.in_ok-start.start = ap (λ (p : Expr × Expr). p.0) c.in_ok-start-3.ensures.value.0 ∙ c.in_ok-start-2.ensures.value.0 in
    let increment : c.in_ok-start-3.increment ≡ c.in_ok-start-2.increment = ap (λ (p : Expr × Expr). p.1) c.in_ok-start-3.ensures.value.0 in
    rw (start, increment) (search (rules, common_steps))
