-- SPDX-License-Identifier: Apache-2.0
use Rattle.mwire.proofs.WireWords.{refl, subst, ◌∙◌, map, take_all, Appends-nil, Appends, told_of, inner_of, told_text}
use Rattle.mwire.proofs.Results.{not_ok}
use Rattle.mwire.proofs.RepliesSent.{sent_on, sent_until, sent_all}
use Rattle.mwire.proofs.only.write_replies.Goals as goal

pub loop-told-init : goal.loop-told-init
loop-told-init g c = record { sent = Appends-nil _; works = refl; no_stall = refl }

pub loop-told-preserved : goal.loop-told-preserved
loop-told-preserved g c =
    let i = c.loop-told.invariant in
    record {
      sent = sent_on told_of c.args.replies.now c.loop-told.told-index c.told-item.result c.loop-told-test.true c.told-item.is _ _ _ i.sent c.in_ok-write_reply.ensures.sent;
      works = c.in_ok-write_reply.ensures.works (λ e. cc) ∙ i.works;
      no_stall = c.in_ok-write_reply.ensures.no_stall (λ e. cc) ∙ i.no_stall;
    }

pub returns-in_err-write_reply-clause-sent : goal.returns-in_err-write_reply-clause-sent
returns-in_err-write_reply-clause-sent g c =
    sent_until told_of c.args.replies.now c.loop-told.told-index c.told-item.result c.loop-told-test.true c.told-item.is _ _ _ _ _ (not_ok c.from_residual.result c.from_residual.ensures.0) c.loop-told.invariant.sent c.in_err-write_reply.ensures.sent

pub returns-clause-sent : goal.returns-clause-sent
returns-clause-sent g c =
    sent_all _ _ _ _ (subst (λ xs. Appends (g.W.Write.contents (inner_of c.args.writer.now)) (g.W.Write.contents (inner_of c.loop-told.writer)) (told_text (map told_of xs))) (take_all c.loop-told.told-index c.args.replies.now c.loop-told-test.false) c.loop-told.invariant.sent)
