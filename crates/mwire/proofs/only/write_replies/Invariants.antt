-- SPDX-License-Identifier: Apache-2.0
use Rattle.mwire.proofs.WireWords.{◌≡◌, map, take, Appends, told_of, inner_of, failed_of, stalls_of, told_text}

abbrev pub invariant-loop-told : Rattle.mwire.proofs.only.write_replies.Given.invariant-loop-told
invariant-loop-told g l = record {
  sent : Appends (g.W.Write.contents (inner_of l.initial.writer)) (g.W.Write.contents (inner_of l.writer)) (told_text (map told_of (take l.told-index l.replies)));
  works : failed_of l.writer ≡ failed_of l.initial.writer;
  no_stall : stalls_of l.writer ≡ stalls_of l.initial.writer;
}
