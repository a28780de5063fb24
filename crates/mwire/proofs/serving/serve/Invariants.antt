-- SPDX-License-Identifier: Apache-2.0
use Rattle.mwire.proofs.WireWords.{◌≡◌, false, settings_of, seen_of, inner_of, calls_of, failed_of, stalls_of, counted_on, HasServed}

abbrev pub invariant-loop-turn : Rattle.mwire.proofs.serving.serve.Given.invariant-loop-turn
invariant-loop-turn g l = record {
  served : HasServed g.S.NodeStore (settings_of l.initial.world) (seen_of g.S.NodeStore l.initial.world) (seen_of g.S.NodeStore l.world)
      (g.R.Read.remaining (inner_of l.initial.reader)) (g.R.Read.remaining (inner_of l.reader))
      (g.W.Write.contents (inner_of l.initial.writer)) (g.W.Write.contents (inner_of l.writer)) l.line;
  settings : settings_of l.world ≡ settings_of l.initial.world;
  calls : calls_of l.reader ≡ counted_on (calls_of l.initial.reader) l._turn;
  reader_works : failed_of l.reader ≡ false;
  writer_works : failed_of l.writer ≡ false;
  no_stall : stalls_of l.writer ≡ stalls_of l.initial.writer;
}
