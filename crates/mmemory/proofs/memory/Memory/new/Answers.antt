-- SPDX-License-Identifier: Apache-2.0
use Rattle.mmemory.proofs.MemoryWords.{drop, sym, ap, state_of, undone, shown}
use Rattle.mmemory.proofs.memory.Memory.new.Goals as goal

pub returns-clause-clean : goal.returns-clause-clean
returns-clause-clean c = ap (λ log. (shown (undone (drop 0 log) (state_of c.new.result.items 0))).trees) (sym c.new-2.ensures.items)
