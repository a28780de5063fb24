-- SPDX-License-Identifier: Apache-2.0
use Rattle.mwire.proofs.WireWords.{◌≡◌, false, map, event_of, inner_of, calls_of, failed_of, counted_on, HasGathered}

abbrev pub invariant-loop-turn : Rattle.mwire.proofs.events.read_events.Given.invariant-loop-turn
invariant-loop-turn g l = record {
  gathered : HasGathered (g.R.Read.remaining (inner_of l.initial.reader)) (g.R.Read.remaining (inner_of l.reader)) l.line (map event_of l.events.items);
  calls : calls_of l.reader ≡ counted_on (calls_of l.initial.reader) l._turn;
  reader_works : failed_of l.reader ≡ false;
}
