-- SPDX-License-Identifier: Apache-2.0
use Rattle.mwire.proofs.WireWords.{◌≡◌, List, ℕ, ◌++◌, length, map, event_of, Text, Gathered}
use Rattle.mwire.proofs.events.gather_piece.Given as goal

abbrev pub invariant-loop-end : goal.invariant-loop-end
invariant-loop-end l = record {
  taken : Text;
  whole : l.piece ≡ taken ++ l.rest;
  gathered : (past : List ℕ) → Gathered past l.initial.line (map event_of l.initial.events.items) → Gathered (past ++ taken) l.line (map event_of l.events.items);
}

abbrev pub decreases-loop-end : goal.decreases-loop-end
decreases-loop-end l = length l.rest
