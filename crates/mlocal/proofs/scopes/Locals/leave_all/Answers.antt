-- SPDX-License-Identifier: Apache-2.0
use Rattle.mlocal.proofs.LocalLaws.{ap, length, both_none}
use Rattle.mlocal.proofs.scopes.Locals.leave_all.Goals as goal

pub invariant_of-self : goal.invariant_of-self
invariant_of-self c = both_none c.self.inside.places _ c.clear.new.self.items (ap length c.clear.ensures.items)
