-- SPDX-License-Identifier: Apache-2.0
use Rattle.mmemory.proofs.MemoryWords.{take, Relists, KeepsPast, memory_view}
use Rattle.mmemory.proofs.alter.MemoryAlter.relist.Given as goal

abbrev pub invariant-loop-change : goal.invariant-loop-change
invariant-loop-change l = record {
  past : KeepsPast l.fn.self.held l.self.held;
  done : Relists (memory_view l.fn.self) (memory_view l.self) (take l.change-index l.changes);
}
