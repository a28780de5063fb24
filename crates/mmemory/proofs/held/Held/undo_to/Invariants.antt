-- SPDX-License-Identifier: Apache-2.0
use Rattle.mmemory.proofs.MemoryWords.{◌≡◌, ℕ, ◌≤◌, length, vec_len, moment}
use Rattle.mmemory.proofs.held.Held.undo_to.Given as goal

abbrev pub invariant-loop-self : goal.invariant-loop-self
invariant-loop-self l = record {
  past : (k : ℕ) → k ≤ l.len → moment l.self k ≡ moment l.fn.self k;
  marks : l.self.marks.items ≡ l.fn.self.marks.items;
  log : l.len ≤ length l.fn.self.log.items → l.len ≤ length l.self.log.items;
}

abbrev pub decreases-loop-self : goal.decreases-loop-self
decreases-loop-self l = vec_len l.self.log
