-- SPDX-License-Identifier: Apache-2.0
use Rattle.mwire.proofs.WireWords.{◌≡◌, ◌++◌, length, Ok, Text, settings_of, seen_of, inner_of, failed_of, stalls_of, TakesOn, WireFault}
use Rattle.mwire.proofs.serving.take_piece.Given as goal

abbrev pub invariant-loop-end : goal.invariant-loop-end
invariant-loop-end g l = record {
  taken : Text;
  whole : l.piece ≡ taken ++ l.rest;
  passes : TakesOn {E = WireFault} g.S.NodeStore (settings_of l.initial.world) (seen_of g.S.NodeStore l.initial.world) l.initial.line taken (seen_of g.S.NodeStore l.world) l.line
      (g.W.Write.contents (inner_of l.initial.writer)) (g.W.Write.contents (inner_of l.writer)) (Ok tt);
  settings : settings_of l.world ≡ settings_of l.initial.world;
  works : failed_of l.writer ≡ failed_of l.initial.writer;
  no_stall : stalls_of l.writer ≡ stalls_of l.initial.writer;
}

abbrev pub decreases-loop-end : goal.decreases-loop-end
decreases-loop-end g l = length l.rest
