-- SPDX-License-Identifier: Apache-2.0
use Rattle.mwire.proofs.WireWords.{false, ap, ◌∙◌, take, rules, arith, ◌||◌}
use Rattle.mwire.proofs.Ends.{HasServed-start, HasServed-kept, HasServed-more, Serves-read, Serves-end, Serves-piece}
use Rattle.mwire.proofs.Progresses.{LineSent-under, TakesOn-under}
use Rattle.mwire.proofs.serving.serve.Goals as goal

pub loop-turn-init : goal.loop-turn-init
loop-turn-init g c = record { served = rw c.new-line.ensures (HasServed-start _ _ _ _ _); settings = search rules; calls = search rules; reader_works = c.requires.reader_works; writer_works = c.requires.writer_works; no_stall = search rules }

pub returns-in-Err-clause-serves : goal.returns-in-Err-clause-serves
returns-in-Err-clause-serves g c = Serves-read _ _ _ _ _ _ _ _ _ (HasServed-kept _ _ _ _ _ _ _ _ _ _ c.loop-turn.invariant.served c.in-Err.ensures.bytes)

pub returns-in-Ok-eq0-clause-serves : goal.returns-in-Ok-eq0-clause-serves
returns-in-Ok-eq0-clause-serves g c =
    let sent = c.answer_line.ensures.sent in
    Serves-end _ _ _ _ _ _ _ _ _ _ _ _ _ c.unfinished.result.now c.read.new.buf _ _ c.loop-turn.invariant.served (search rules) c.in-Ok-eq0.ensures.bytes.0
    (c.in-Ok-eq0.ensures.bytes.1 (search rules) (omega arith)) c.unfinished.ensures (LineSent-under c.loop-turn.invariant.settings sent) c.answer_line.ensures.idle c.answer_line.ensures.fault

pub returns-clause-serves : goal.returns-clause-serves
returns-clause-serves g c = Serves-read _ _ _ _ _ _ _ _ _ c.loop-turn.invariant.served

pub returns-in-Err-take_piece-clause-serves : goal.returns-in-Err-take_piece-clause-serves
returns-in-Err-take_piece-clause-serves g c =
    Serves-piece _ _ _ _ _ _ _ _ _ _ _ _ _ (take c.in-Ok.n c.read.new.buf) _ c.loop-turn.invariant.served c.in-Ok.ensures.bytes.0 (TakesOn-under c.loop-turn.invariant.settings c.in-Err-take_piece.ensures.passes) c.in-Err-take_piece.ensures.fault.0

pub loop-turn-preserved : goal.loop-turn-preserved
loop-turn-preserved g c =
    let i = c.loop-turn.invariant in
    record {
      served = HasServed-more _ _ _ _ _ _ _ _ _ _ _ _ _ (take c.in-Ok.n c.read.new.buf) _ i.served c.in-Ok.ensures.bytes.0 (TakesOn-under i.settings c.in_default.ensures.passes);
      settings = c.in_default.ensures.settings ∙ i.settings;
      calls = omega (arith, c.in-Ok.ensures.calls, i.calls);
      reader_works = c.in-Ok.ensures.failed ∙ ap (λ b. b || false) i.reader_works;
      writer_works = c.in_default.ensures.works (λ e. cc) ∙ i.writer_works;
      no_stall = c.in_default.ensures.no_stall (λ e. cc) ∙ i.no_stall;
    }
