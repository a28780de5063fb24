-- SPDX-License-Identifier: Apache-2.0
use Rattle.moperator.proofs.OperatorWords.{Vec, Global, refl, Zmem, yields_wanting, residual_is}
use Rattle.std.proofs.Common.{ℤ}
use Rattle.moperator.proofs.GivenArguments.{next_whole, whole_refused, wholes_end}
use Rattle.moperator.proofs.Numbers.{whole_fits}
use Rattle.moperator.proofs.arguments.wholes.Goals as goal

pub loop-argument-init : goal.loop-argument-init
loop-argument-init c = λ r k. rw c.in_ok-wholes.ensures.items at k

pub returns-in_err-whole : goal.returns-in_err-whole
returns-in_err-whole c =
    rw (residual_is _ _ c.from_residual-in_err-whole.ensures)
    (c.loop-argument.invariant _ (whole_refused (λ (w : Vec ℤ Global). w.items) c.args.arguments.now c.loop-argument.argument-index c.argument-item.result _ _ c.loop-argument-test.true c.argument-item.is c.in_err-whole.ensures.whole))

pub loop-argument-preserved : goal.loop-argument-preserved
loop-argument-preserved c =
    λ r k.
    let k = rw (c.in_ok-push.ensures.items, whole_fits c.in_ok-whole.whole c.in_ok-whole.ensures.below) at k in
    c.loop-argument.invariant r (next_whole (λ (w : Vec ℤ Global). w.items) c.args.arguments.now c.loop-argument.argument-index c.argument-item.result _ _ r c.loop-argument-test.true c.argument-item.is c.in_ok-whole.ensures.whole k)

pub returns : goal.returns
returns c = c.loop-argument.invariant _ (wholes_end (λ (w : Vec ℤ Global). w.items) c.args.arguments.now c.loop-argument.argument-index c.loop-argument.wholes c.loop-argument-test.false)

pub returns-in_err-push : goal.returns-in_err-push
returns-in_err-push c = yields_wanting _ _ Zmem _ refl c.from_residual-in_err-push.ensures
