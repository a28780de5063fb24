-- SPDX-License-Identifier: Apache-2.0
use Rattle.std.proofs.Common.{arith, ◌∙◌}
use Rattle.sqlite_value.proofs.KeyLemmas.{entry_cmp_past}
use Rattle.mmemory.proofs.packed.Packed.cmp_entry.Goals as goal

pub returns : goal.returns
returns c = c.cmp.ensures ∙ (let e = entry_cmp_past c.loop-at.order c.args.self.now c.args.other.now c.loop-at.at (omega arith) in grind arith)
