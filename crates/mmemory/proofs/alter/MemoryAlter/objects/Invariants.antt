-- SPDX-License-Identifier: Apache-2.0
use Rattle.mmemory.proofs.MemoryWords.{◌≡◌, ◌++◌, map, take, drop, objects_from, plain, heading}
use Rattle.mmemory.proofs.alter.MemoryAlter.objects.Given as goal

abbrev pub invariant-loop-at : goal.invariant-loop-at
invariant-loop-at l = l.rows.items ++ map (take 5) (objects_from l.at (drop l.at (map heading (map plain l.trees)))) ≡ map (take 5) (objects_from 0 (map heading (map plain l.trees)))
