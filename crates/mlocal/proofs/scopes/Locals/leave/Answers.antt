-- SPDX-License-Identifier: Apache-2.0
use Rattle.mlocal.proofs.LocalLaws.{arith, both_below}
use Rattle.std.specs.Option.{option_to_list}
use Rattle.mlocal.proofs.scopes.Locals.leave.Goals as goal

pub invariant_of-self : goal.invariant_of-self
invariant_of-self c =
    let l = c.self.inside in
    both_below l.places l.scoped _ c.pop-closed.new.self.items (option_to_list c.pop-closed.result) l.levels.items c.pop-closed.ensures.items
    (omega arith) c.self.invariant
