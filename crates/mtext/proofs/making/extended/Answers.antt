-- SPDX-License-Identifier: Apache-2.0
use Rattle.mtext.proofs.TextWords.{sym, ap, ◌∙◌, ◌++◌, append_assoc, repeat}
use Rattle.mtext.proofs.MadeTexts.{repeat_more}
use Rattle.mtext.proofs.making.extended.Goals as goal

pub loop-preserved : goal.loop-preserved
loop-preserved c =
    let d = c.args.delimiter.now in
    c.in_ok-append.ensures.ok ∙ ap (λ t. t ++ d) c.loop.invariant ∙ append_assoc c.args.text.now (repeat c.loop.counter d) d ∙ ap (λ t. c.args.text.now ++ t) (sym (repeat_more c.loop.counter d))
