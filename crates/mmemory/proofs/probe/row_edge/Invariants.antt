-- SPDX-License-Identifier: Apache-2.0
use Rattle.mmemory.proofs.MemoryWords.{◌≡◌, ℕ, ◌+◌, ◌-◌, ◌≤◌, true, false, length, slice_get, Some, passes}
use Rattle.mmemory.proofs.probe.row_edge.Given as goal

abbrev pub invariant-loop-low : goal.invariant-loop-low
invariant-loop-low l = record {
  low : l.low ≤ l.high;
  high : l.high ≤ length l.rows;
  last : (k : ℕ) (part : _) → k + 1 ≡ l.low → slice_get l.rows k ≡ Some part → passes l.probe part ≡ true;
  first : (part : _) → slice_get l.rows l.high ≡ Some part → passes l.probe part ≡ false;
}

abbrev pub decreases-loop-low : goal.decreases-loop-low
decreases-loop-low l = l.high - l.low
