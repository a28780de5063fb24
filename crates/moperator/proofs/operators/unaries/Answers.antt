-- SPDX-License-Identifier: Apache-2.0
use Rattle.moperator.proofs.OperatorWords.{arith, residual_is}
use Rattle.std.proofs.Math.Seq.{take-length}
use Rattle.moperator.proofs.Signs.{next_sign, sign_failed, no_sign_left}
use Rattle.moperator.proofs.operators.unaries.Goals as goal

pub returns-in_err-value-clause-value : goal.returns-in_err-value-clause-value
returns-in_err-value-clause-value c =
    rw (residual_is _ _ c.from_residual.ensures)
    (c.loop-left.invariant.leads _ (sign_failed c.args.signs.now c.loop-left.left _ c.loop-left.value _ c.loop-left-test.true c.loop-left.invariant.within c.in_err-value.ensures.value))

pub loop-left-init : goal.loop-left-init
loop-left-init c = record { within = omega arith; leads = λ r k. rw take-length at k }

pub loop-left-preserved : goal.loop-left-preserved
loop-left-preserved c = record {
  within = omega arith;
  leads = λ r k.
      c.loop-left.invariant.leads r
      (next_sign c.args.signs.now c.loop-left.left _ c.loop-left.value c.in_ok-value.value r c.loop-left-test.true c.loop-left.invariant.within c.in_ok-value.ensures.value k);
}

pub returns-clause-value : goal.returns-clause-value
returns-clause-value c = c.loop-left.invariant.leads _ (no_sign_left c.args.signs.now c.loop-left.left c.loop-left.value c.loop-left-test.false)
