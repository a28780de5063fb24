-- SPDX-License-Identifier: Apache-2.0
use Rattle.mwire.proofs.WireWords.{◌∙◌, ap, classify, strip_carriage_return}
use Rattle.mwire.proofs.Progresses.{TakesOn-finished, classify-whole, nothing_kept}
use Rattle.mwire.proofs.serving.take_line.Goals as goal

pub returns-then-is_empty-clause-passes : goal.returns-then-is_empty-clause-passes
returns-then-is_empty-clause-passes g c =
    let nothing = nothing_kept c.args.line.now _ c.is_empty.ensures c.if-is_empty.true in
    TakesOn-finished _ _ _ c.args.line.now c.args.bytes.now c.without_return.result.now _ _ _ _ _ c.requires nothing
    (ap classify c.without_return.ensures ∙ classify-whole c.args.line.now c.args.bytes.now nothing) c.answer_line.ensures.sent

pub returns-clause-passes : goal.returns-clause-passes
returns-clause-passes g c =
    TakesOn-finished _ _ _ c.args.line.now c.args.bytes.now c.finished.result.now _ _ _ _ _ c.requires c.clear.ensures
    (ap classify (c.finished.ensures ∙ ap strip_carriage_return c.extend.ensures)) c.answer_line-result.ensures.sent
