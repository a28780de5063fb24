-- SPDX-License-Identifier: Apache-2.0
use Rattle.mtext.proofs.TextWords.{ap, append_assoc, append-nil, arith, drop, sym, ◌+◌, ◌++◌, ◌∙◌}
use Rattle.mspec.specs.NumberFormats.{grouped}
use Rattle.mtext.proofs.FormatMarks.{grouped_at, grouped_past}
use Rattle.mtext.proofs.numbers.push_grouped.Goals as goal

pub loop-i-preserved : goal.loop-i-preserved
loop-i-preserved c =
    let ds = c.args.digits.now in
    let i = c.loop-i.i in
    ap (λ t. t ++ grouped (drop (i + 1) ds)) c.in_ok-push_digit.ensures ∙ append_assoc c.loop-i.out _ (grouped (drop (i + 1) ds))
    ∙ ap (λ t. c.loop-i.out ++ t) (sym (grouped_at ds i c.loop-i-test.true)) ∙ c.loop-i.invariant

pub returns : goal.returns
returns c = sym (append-nil c.loop-i.out) ∙ ap (λ t. c.loop-i.out ++ t) (sym (grouped_past c.args.digits.now c.loop-i.i (omega (arith, c.loop-i-test.false)))) ∙ c.loop-i.invariant
