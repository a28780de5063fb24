-- SPDX-License-Identifier: Apache-2.0
use Rattle.mnum.proofs.NumWords.{◌≡◌, ℕ, ◌+◌, ◌-◌, ◌*◌, ◌≤◌, length, sym, ◌∙◌, ap, inl, inr, arith, get_or, true, prefix_len, is_digit}
use borrow.Author.Count.{below_more}
use Rattle.mnum.proofs.Scans.{read_more, front_is, front_value, digit_low, digit_high}
use Rattle.mnum.proofs.reading.read_digits.Goals as goal
use Rattle.mnum.proofs.reading.read_digits.Goals.{then-head-lt1000000000000000000, else-head-lt1000000000000000000}

pub returns-then-not-is_decimal-clause-count : goal.returns-then-not-is_decimal-clause-count
returns-then-not-is_decimal-clause-count c =
    front_is c.args.text.now c.loop-i.i c.loop-i.auto.i-end c.loop-i.invariant.digits (λ h. sym c.is_decimal.ensures ∙ c.if-not-is_decimal.true)

pub returns-then-not-is_decimal-clause-value : goal.returns-then-not-is_decimal-clause-value
returns-then-not-is_decimal-clause-value c number head =
    let e : c.loop-i.i ≡ prefix_len is_digit c.args.text.now = front_is c.args.text.now c.loop-i.i c.loop-i.auto.i-end c.loop-i.invariant.digits (λ h. sym c.is_decimal.ensures ∙ c.if-not-is_decimal.true) in
    front_value c.args.text.now c.loop-i.i c.loop-i.head.digits c.loop-i.head.dropped number e (c.loop-i.invariant.value number head)

pub loop-i-preserved : goal.loop-i-preserved
loop-i-preserved c =
    let digit : is_digit (get_or c.args.text.now c.loop-i.i 0) ≡ true = sym c.is_decimal.ensures ∙ c.if-not-is_decimal.false in
    let low : 48 ≤ get_or c.args.text.now c.loop-i.i 0 = digit_low (get_or c.args.text.now c.loop-i.i 0) digit in
    let high : get_or c.args.text.now c.loop-i.i 0 ≤ 57 = digit_high (get_or c.args.text.now c.loop-i.i 0) digit in
    let n : ℕ = c.loop-i.head.digits in
    let d : ℕ = c.loop-i.head.dropped in
    elim c.if-head-lt1000000000000000000.branch [
      | then-head-lt1000000000000000000 w ↦
          let kept : c.if-head-lt1000000000000000000.head.digits ≡ n * 10 + (get_or c.args.text.now c.loop-i.i 0 - 48) = ap (λ h. h.digits) w.head-is in
          let same : c.if-head-lt1000000000000000000.head.dropped ≡ d = ap (λ h. h.dropped) w.head-is in
          record {
            few = omega arith;
            dropped = omega (arith, c.loop-i.invariant.dropped);
            digits = below_more _ _ c.loop-i.invariant.digits digit;
            value = λ number head. read_more n d number c.loop-i.i c.args.text.now _ _ c.loop-i-test.true digit (inl (w.if-head-lt1000000000000000000.true, kept, same)) (c.loop-i.invariant.value number head);
          }
      | else-head-lt1000000000000000000 w ↦
          let kept : c.if-head-lt1000000000000000000.head.digits ≡ n = ap (λ h. h.digits) w.head-is in
          let same : c.if-head-lt1000000000000000000.head.dropped ≡ d + 1 = ap (λ h. h.dropped) w.head-is in
          record {
            few = omega (arith, c.loop-i.invariant.few);
            dropped = omega (arith, c.loop-i.invariant.dropped);
            digits = below_more _ _ c.loop-i.invariant.digits digit;
            value = λ number head. read_more n d number c.loop-i.i c.args.text.now _ _ c.loop-i-test.true digit (inr (w.if-head-lt1000000000000000000.false, kept, same)) (c.loop-i.invariant.value number head);
          }
    ]

pub returns-clause-count : goal.returns-clause-count
returns-clause-count c =
    let all : c.loop-i.i ≡ length c.args.text.now = omega arith in
    sym all ∙ front_is c.args.text.now c.loop-i.i c.loop-i.auto.i-end c.loop-i.invariant.digits (λ h. absurd (omega arith))

pub returns-clause-value : goal.returns-clause-value
returns-clause-value c number head =
    let e : c.loop-i.i ≡ prefix_len is_digit c.args.text.now = front_is c.args.text.now c.loop-i.i c.loop-i.auto.i-end c.loop-i.invariant.digits (λ h. absurd (omega arith)) in
    front_value c.args.text.now c.loop-i.i c.loop-i.head.digits c.loop-i.head.dropped number e (c.loop-i.invariant.value number head)
