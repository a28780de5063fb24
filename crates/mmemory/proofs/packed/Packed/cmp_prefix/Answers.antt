-- SPDX-License-Identifier: Apache-2.0
use Rattle.std.proofs.Common.{arith, sym, ◌∙◌}
use Rattle.sqlite_value.proofs.KeyLemmas.{prefix_cmp_short}
use Rattle.mmemory.proofs.packed.Packed.cmp_prefix.Goals as goal

pub returns-then-at-len : goal.returns-then-at-len
returns-then-at-len c = sym (prefix_cmp_short c.loop-at.order c.args.self.now c.args.key.now c.loop-at.at (omega arith) (omega arith)) ∙ c.loop-at.invariant
