-- SPDX-License-Identifier: Apache-2.0
use Rattle.mmemory.proofs.MemoryWords.{◌≡◌, ℕ, ◌+◌, ◌-◌, ◌≤◌, true, false, [], length, get_or, slice_get, Some, chunk_rows, passes}
use Rattle.mmemory.proofs.probe.chunk_edge.Given as goal

abbrev pub invariant-loop-low : goal.invariant-loop-low
invariant-loop-low l = record {
  low : l.low ≤ l.high;
  high : l.high ≤ length l.chunks;
  last : (k : ℕ) (part : _) → k + 1 ≡ l.low → slice_get l.chunks k ≡ Some part → passes l.probe (get_or (chunk_rows part) 0 []) ≡ true;
  first : (part : _) → slice_get l.chunks l.high ≡ Some part → passes l.probe (get_or (chunk_rows part) 0 []) ≡ false;
}

abbrev pub decreases-loop-low : goal.decreases-loop-low
decreases-loop-low l = l.high - l.low
