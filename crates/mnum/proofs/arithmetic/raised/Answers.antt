-- SPDX-License-Identifier: Apache-2.0
use Rattle.mnum.proofs.NumWords.{arith, ap, sym, ◌∙◌, ◌≡◌, ◌*◌, ◌^◌, ◌+◌, ten_add, mul_assoc}
use Rattle.mnum.proofs.arithmetic.raised.Goals as goal

pub loop-zeros-preserved : goal.loop-zeros-preserved
loop-zeros-preserved c =
    let more : c.loop-zeros.value * 10 ≡ c.args.digits * 10 ^ (c.loop-zeros.zeros + 1) =
    ap (λ x. x * 10) c.loop-zeros.invariant.0 ∙ mul_assoc c.args.digits (10 ^ c.loop-zeros.zeros) 10 ∙ ap (λ x. c.args.digits * x) (sym (ten_add c.loop-zeros.zeros 1)) in
    (more, omega arith, omega arith)
