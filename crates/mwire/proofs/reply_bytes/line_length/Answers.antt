-- SPDX-License-Identifier: Apache-2.0
use Rattle.mwire.proofs.WireWords.{sym, ap, arith, position_or_len_is, is_line_end, nat_tests}
use Rattle.mwire.proofs.reply_bytes.line_length.Goals as goal

pub returns-in-Some : goal.returns-in-Some
returns-in-Some c =
    let found = c.in-Some.ensures in
    sym (position_or_len_is is_line_end c.args.output.now _ 0 (omega (arith, found.0.high)) (λ k lt. grind (arith, nat_tests, found.0.before k)) (λ h. found.1))

pub returns-in-None : goal.returns-in-None
returns-in-None c = sym (position_or_len_is is_line_end c.args.output.now _ 0 (omega arith) (λ k lt. grind (arith, nat_tests, c.in-None.ensures k)) (λ h. absurd (omega arith)))

pub returns-then-b : goal.returns-then-b
returns-then-b c = sym (position_or_len_is is_line_end c.args.output.now c.loop-i.i 0 (omega arith) c.loop-i.invariant (λ h. ap is_line_end c.if-b.true))

pub returns : goal.returns
returns c = sym (position_or_len_is is_line_end c.args.output.now _ 0 (omega arith) (λ k lt. c.loop-i.invariant k (omega arith)) (λ h. absurd (omega arith)))
