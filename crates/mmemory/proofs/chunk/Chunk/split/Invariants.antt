-- SPDX-License-Identifier: Apache-2.0
use Rattle.mmemory.proofs.MemoryWords.{◌≡◌, ◌+◌, ◌<◌, ◌≤◌, ◌++◌, length, reverse, vec_len, vec_capacity}
use Rattle.mmemory.proofs.chunk.Chunk.split.Given as goal

abbrev pub invariant-loop-rows : goal.invariant-loop-rows
invariant-loop-rows l = record {
  all : l.fn.self.rows.items ≡ l.self.rows.items ++ reverse l.rows.items;
  low : l.at ≤ length l.self.rows.items;
  one : 0 < l.at;
  short : l.at < length l.fn.self.rows.items;
  count : length l.self.rows.items + length l.rows.items ≡ length l.fn.self.rows.items;
  room : 128 ≤ vec_capacity l.rows;
}

abbrev pub decreases-loop-rows : goal.decreases-loop-rows
decreases-loop-rows l = vec_len l.self.rows
