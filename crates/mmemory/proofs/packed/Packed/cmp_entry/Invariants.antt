-- SPDX-License-Identifier: Apache-2.0
use Rattle.std.proofs.Common.{◌≡◌, drop}
use Rattle.sqlite_value.specs.Keys.{entry_cmp}
use Rattle.mmemory.proofs.packed.Packed.cmp_entry.Given as goal

abbrev pub invariant-loop-at : goal.invariant-loop-at
invariant-loop-at l = entry_cmp l.order (drop l.at l.self) (drop l.at l.other) ≡ entry_cmp l.fn.order l.self l.other
