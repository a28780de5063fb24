-- SPDX-License-Identifier: Apache-2.0
use Rattle.mwire.proofs.WireWords.{refl, sym, ◌∙◌, ap, [], wire_line_in}
use Rattle.mwire.proofs.LineAnswers.{LineAnswered-at, replied}
use Rattle.mwire.proofs.Results.{not_ok}
use Rattle.mwire.proofs.Sends.{FrontSent-none}
use Rattle.mwire.proofs.serving.answer_line.Goals as goal

pub returns-in_err-show_reply-in-Runs-clause-sent : goal.returns-in_err-show_reply-in-Runs-clause-sent
returns-in_err-show_reply-in-Runs-clause-sent g c =
    let is = sym c.classify.ensures ∙ ap wire_line_in c.in-Runs.is in
    record {
      answer = _;
      answered = LineAnswered-at _ _ _ _ _ _ _ is (replied _ c.line-reply.result refl c.line-reply.ensures.transition c.line-reply.ensures.doubt c.line-reply.ensures.steady);
      sent = FrontSent-none _ _ _ (not_ok _ c.from_residual.ensures.0);
    }

pub returns-in-Ignored-clause-sent : goal.returns-in-Ignored-clause-sent
returns-in-Ignored-clause-sent g c =
    let is = sym c.classify.ensures ∙ ap wire_line_in c.in-Ignored.is in
    record { answer = []; answered = LineAnswered-at _ _ _ _ _ _ _ is (refl, refl); sent = FrontSent-none _ _ _ (λ _. refl) }

pub returns-in-TooLong-clause-sent : goal.returns-in-TooLong-clause-sent
returns-in-TooLong-clause-sent g c =
    let is = sym c.classify.ensures ∙ ap wire_line_in c.in-TooLong.is in
    record { answer = _; answered = LineAnswered-at _ _ _ _ _ _ _ is (refl, refl); sent = c.write_whole.ensures.sent }

pub returns-in-Unreadable-clause-sent : goal.returns-in-Unreadable-clause-sent
returns-in-Unreadable-clause-sent g c =
    let is = sym c.classify.ensures ∙ ap wire_line_in c.in-Unreadable.is in
    record { answer = _; answered = LineAnswered-at _ _ _ _ _ _ _ is (refl, refl); sent = c.write_whole-in-Unreadable.ensures.sent }

pub returns-in_ok-show_reply-in-Runs-clause-sent : goal.returns-in_ok-show_reply-in-Runs-clause-sent
returns-in_ok-show_reply-in-Runs-clause-sent g c =
    let is = sym c.classify.ensures ∙ ap wire_line_in c.in-Runs.is in
    let same = c.deref.ensures.value ∙ c.in_ok-show_reply-in-Runs.ensures.ok in
    rw (c.reuse.ensures.world, c.reuse.ensures.doubt, c.reuse.ensures.room) (record {
      answer = c.deref.result.now;
      answered = LineAnswered-at _ _ _ _ _ _ _ is (replied _ c.line-reply.result same c.line-reply.ensures.transition c.line-reply.ensures.doubt c.line-reply.ensures.steady);
      sent = c.write_whole-in-Runs.ensures.sent;
    })
