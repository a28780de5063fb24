-- SPDX-License-Identifier: Apache-2.0
use Rattle.mstore.proofs.Words.{ap, Err, state}
use Rattle.mstore.proofs.Numbers.{none_counted}
use Rattle.mstore.proofs.Rooms.{unlimited_store, unlimited_opened}
use Rattle.mstore.proofs.table.Table.adopt.Goals as goal

pub invariant_of-result : goal.invariant_of-result
invariant_of-result g c = (
  λ alone sure. unlimited_store g.S.Store c.open_tables.new.conn c.set_step_limit.new.self c.set_step_limit.ensures (λ sure. c.in-Ok.ensures.store sure) sure,
  ap (λ h. h.step_limit) c.set_step_limit.ensures,
  λ alone sure. none_counted _,
  λ alone sure. c.new-stretch.ensures _,
)

pub returns-in-Ok-clause-store : goal.returns-in-Ok-clause-store
returns-in-Ok-clause-store g c sure =
    unlimited_store g.S.Store c.open_tables.new.conn c.set_step_limit.new.self c.set_step_limit.ensures (λ sure. c.in-Ok.ensures.store sure) sure

pub returns-in-Err-clause-version : goal.returns-in-Err-clause-version
returns-in-Err-clause-version g c sure same = c.in-Err.ensures.version sure (ap Err same)

pub returns-in-Ok-clause-opened : goal.returns-in-Ok-clause-opened
returns-in-Ok-clause-opened g c sure =
    unlimited_opened g.S.Store (state g.S.Store c.args.conn) c.open_tables.new.conn c.set_step_limit.new.self c.set_step_limit.ensures (λ sure. c.in-Ok.ensures.opened sure) sure
