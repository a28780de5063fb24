-- SPDX-License-Identifier: Apache-2.0
use Rattle.mmemory.proofs.MemoryWords.{ℕ, ◌^◌, ◌<◌, ◌≤◌, IsIndexShape, memory_view}
use Rattle.mmemory.proofs.memory.MemoryStore.tree_count.Given as goal

abbrev pub invariant-loop-count : goal.invariant-loop-count
invariant-loop-count l = (l.count ≤ 2 ^ 32) × ((t : ℕ) → l.count ≤ t → t < 2 ^ 32 → ¬ IsIndexShape ((memory_view l.self).shape t))

abbrev pub decreases-loop-count : goal.decreases-loop-count
decreases-loop-count l = l.count
