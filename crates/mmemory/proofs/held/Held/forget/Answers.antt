-- SPDX-License-Identifier: Apache-2.0
use Rattle.mmemory.proofs.Logs.{order_forgotten, no_marks, no_rise}
use Rattle.mmemory.proofs.held.Held.forget.Goals as goal

pub invariant_of-self : goal.invariant_of-self
invariant_of-self c =
    let h = c.args.self.now in
    record {
      ordered = order_forgotten h c.new.result.items c.new.ensures.items;
      within = no_marks c.clear.new.self.items c.new.result.items c.clear.ensures.items;
      rising = no_rise c.clear.new.self.items c.clear.ensures.items;
    }

pub invariant_of-self-else-len-gt-LONG_LOG : goal.invariant_of-self-else-len-gt-LONG_LOG
invariant_of-self-else-len-gt-LONG_LOG c =
    let h = c.args.self.now in
    record {
      ordered = order_forgotten h c.clear-else-len-gt-LONG_LOG.new.self.items c.clear-else-len-gt-LONG_LOG.ensures.items;
      within = no_marks c.clear.new.self.items c.clear-else-len-gt-LONG_LOG.new.self.items c.clear.ensures.items;
      rising = no_rise c.clear.new.self.items c.clear.ensures.items;
    }
