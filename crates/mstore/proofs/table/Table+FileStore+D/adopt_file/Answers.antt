-- SPDX-License-Identifier: Apache-2.0
use Rattle.sqlite.specs.Files.{over_files}
use Rattle.mstore.proofs.Words.{ap, state}
use Rattle.mstore.proofs.Doubting.{sure_table}
use Rattle.mstore.proofs.Numbers.{none_counted}
use Rattle.mstore.proofs.Rooms.{unlimited_store, unlimited_opened}
use Rattle.mstore.proofs.table.Table+FileStore+D.adopt_file.Goals as goal

pub invariant_of-result : goal.invariant_of-result
invariant_of-result g c = (
  λ alone sure. unlimited_store over_files c.open_beside.new.conn c.set_step_limit.new.self c.set_step_limit.ensures (λ sure. c.in-Ok.ensures.store sure alone) sure,
  ap (λ h. h.step_limit) c.set_step_limit.ensures,
  λ alone sure. none_counted _,
  λ alone sure. c.new-stretch.ensures _,
)

pub returns-in-Ok-clause-opened : goal.returns-in-Ok-clause-opened
returns-in-Ok-clause-opened g c sure =
    let it = sure_table over_files (record { conn = c.set_step_limit.new.self; is_alone = c.in-Ok.alone; numbers = 0 }) sure in
    unlimited_opened over_files (state over_files c.args.conn) c.open_beside.new.conn c.set_step_limit.new.self c.set_step_limit.ensures (λ sure. c.in-Ok.ensures.opened sure it.0) it.1
