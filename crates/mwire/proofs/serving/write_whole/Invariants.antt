-- SPDX-License-Identifier: Apache-2.0
use Rattle.mwire.proofs.WireWords.{◌≡◌, length, inner_of, failed_of, stalls_of, SentUpTo}
use Rattle.mwire.proofs.serving.write_whole.Given as goal

abbrev pub invariant-loop-rest : goal.invariant-loop-rest
invariant-loop-rest g l = record {
  sent : SentUpTo l.bytes l.rest (g.W.Write.contents (inner_of l.initial.writer)) (g.W.Write.contents (inner_of l.writer));
  works : failed_of l.writer ≡ failed_of l.initial.writer;
  no_stall : stalls_of l.writer ≡ stalls_of l.initial.writer;
}

abbrev pub decreases-loop-rest : goal.decreases-loop-rest
decreases-loop-rest g l = length l.rest
