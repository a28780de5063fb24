-- SPDX-License-Identifier: Apache-2.0
use Rattle.std.proofs.Common.{◌≡◌, drop}
use Rattle.sqlite_value.specs.Keys.{prefix_cmp}
use Rattle.mmemory.proofs.packed.Packed.cmp_prefix.Given as goal

abbrev pub invariant-loop-at : goal.invariant-loop-at
invariant-loop-at l = prefix_cmp l.order (drop l.at l.self) (drop l.at l.key) ≡ prefix_cmp l.fn.order l.self l.key
