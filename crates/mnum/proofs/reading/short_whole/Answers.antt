-- SPDX-License-Identifier: Apache-2.0
use Rattle.mnum.proofs.NumWords.{◌≡◌, ◌≤◌, true, get_or, length, sym, ◌∙◌, arith, below_more, is_digit}
use Rattle.mnum.proofs.Scans.{digit_high}
use Rattle.mnum.proofs.Wholes.{digit_below, few_below, digit_fits, value_more, value_all, digits_all}
use Rattle.mnum.proofs.reading.short_whole.Goals as goal

pub overflow_mul-number : goal.overflow_mul-number
overflow_mul-number c =
    omega (arith, digit_fits c.loop-c.number c.loop-c.c-index c.args.text.now c.loop-c.invariant.below c.loop-c-test.true c.if-text-gt18.false (sym c.is_decimal.ensures ∙ c.if-not-is_decimal.false))

pub overflow_add-number : goal.overflow_add-number
overflow_add-number c =
    omega (arith, digit_fits c.loop-c.number c.loop-c.c-index c.args.text.now c.loop-c.invariant.below c.loop-c-test.true c.if-text-gt18.false (sym c.is_decimal.ensures ∙ c.if-not-is_decimal.false))

pub loop-c-preserved : goal.loop-c-preserved
loop-c-preserved c =
    let digit : is_digit (get_or c.args.text.now c.loop-c.c-index 0) ≡ true = sym c.is_decimal.ensures ∙ c.if-not-is_decimal.false in
    record {
      below = digit_below c.loop-c.number c.loop-c.c-index (get_or c.args.text.now c.loop-c.c-index 0) c.loop-c.invariant.below (digit_high _ digit);
      value = value_more c.loop-c.number c.loop-c.c-index c.args.text.now c.loop-c-test.true c.loop-c.invariant.value;
      digits = below_more _ _ c.loop-c.invariant.digits digit;
    }

pub returns-clause-some : goal.returns-clause-some
returns-clause-some c =
    let end : length c.args.text.now ≤ c.loop-c.c-index = c.loop-c-test.false in (
      few_below c.loop-c.number c.loop-c.c-index c.loop-c.invariant.below (omega arith),
      value_all c.loop-c.number c.loop-c.c-index c.args.text.now end c.loop-c.invariant.value,
      digits_all c.loop-c.c-index c.args.text.now end c.loop-c.invariant.digits,
    )
