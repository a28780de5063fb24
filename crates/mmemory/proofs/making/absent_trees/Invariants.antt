-- SPDX-License-Identifier: Apache-2.0
use Rattle.mmemory.proofs.MemoryWords.{◌≡◌, map, replicate, plain, no_plain}
use Rattle.mmemory.proofs.making.absent_trees.Given as goal

abbrev pub invariant-loop : goal.invariant-loop
invariant-loop l = map plain l.trees.items ≡ replicate l.counter no_plain
