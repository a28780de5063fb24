-- SPDX-License-Identifier: Apache-2.0
use Rattle.mwire.proofs.WireWords.{◌++◌, false, ap, sym, ◌∙◌, take, rules, arith, ◌||◌, Consumes-trans, Consumes-kept}
use Rattle.mwire.proofs.Ends.{Consumes-none}
use Rattle.mwire.proofs.Gathers.{HasGathered-start, HasGathered-more, Gathered-end}
use Rattle.mwire.proofs.Results.{on_ok_unless}
use Rattle.mwire.proofs.events.read_events.Goals as goal

pub loop-turn-init : goal.loop-turn-init
loop-turn-init g c = record { gathered = rw (c.new-line.ensures, c.new-events.ensures.items) (HasGathered-start _); calls = search rules; reader_works = c.requires }

pub returns-in-Err-clause-reads : goal.returns-in-Err-clause-reads
returns-in-Err-clause-reads g c =
    let h = c.loop-turn.invariant.gathered in
    record { read = h.read; consumed = Consumes-kept _ _ _ _ h.consumed c.in-Err.ensures.bytes; outcome = λ e. cc }

pub returns-in-Err-gather_line-clause-reads : goal.returns-in-Err-gather_line-clause-reads
returns-in-Err-gather_line-clause-reads g c =
    let h = c.loop-turn.invariant.gathered in
    record { read = h.read; consumed = Consumes-none _ _ _ _ _ _ (search rules) h.consumed c.in-Ok-eq0.ensures.bytes.0; outcome = λ e. cc }

pub returns-clause-reads : goal.returns-clause-reads
returns-clause-reads g c =
    let h = c.loop-turn.invariant.gathered in
    record { read = h.read; consumed = h.consumed; outcome = λ e. cc }

pub returns-in-Ok-gather_line-clause-reads : goal.returns-in-Ok-gather_line-clause-reads
returns-in-Ok-gather_line-clause-reads g c =
    let h = c.loop-turn.invariant.gathered in
    record {
      read = h.read;
      consumed = Consumes-none _ _ _ _ _ _ (search rules) h.consumed c.in-Ok-eq0.ensures.bytes.0;
      outcome = (
        c.in-Ok-eq0.ensures.bytes.1 (search rules) (omega arith),
        Gathered-end h.read c.unfinished.result.now _ _ c.in-Ok-gather_line.ensures (rw c.unfinished.ensures h.gathered),
      );
    }

pub returns-then-is_err-clause-reads : goal.returns-then-is_err-clause-reads
returns-then-is_err-clause-reads g c =
    let h = c.loop-turn.invariant.gathered in
    record { read = h.read ++ take c.in-Ok.n c.read.new.buf; consumed = Consumes-trans _ _ _ _ _ h.consumed c.in-Ok.ensures.bytes.0; outcome = λ e. cc }

pub loop-turn-preserved : goal.loop-turn-preserved
loop-turn-preserved g c =
    let i = c.loop-turn.invariant in
    let more = on_ok_unless _ _ c.gather_piece.ensures (sym c.is_err.ensures.value ∙ c.if-is_err.false) in
    record {
      gathered = HasGathered-more _ _ _ _ _ (take c.in-Ok.n c.read.new.buf) _ _ i.gathered c.in-Ok.ensures.bytes.0 more;
      calls = omega (arith, c.in-Ok.ensures.calls, i.calls);
      reader_works = c.in-Ok.ensures.failed ∙ ap (λ b. b || false) i.reader_works;
    }
