-- SPDX-License-Identifier: Apache-2.0
-- What contracts see of a connection over a store in memory.
use Rattle.std.specs.Prelude.{◌≡◌, None}
use Rattle.sqlite_trees.specs.declared.store.Store.{Ghosts}
use Rattle.mmemory.specs.declared.memory.Memory.{Memory}
use Rattle.mmemory.specs.Memory.{memory_view}

abbrev pub over_memory : Ghosts Memory
over_memory = record { view = memory_view; faults = λ _. 0; recovers = λ s db. db ≡ (memory_view s).committed; is_shielded = λ _. Unit {0}; is_step = λ _ _ _. Unit {0}; blamed = λ _. None; names = λ _ _ _. Unit {0} }
