-- SPDX-License-Identifier: Apache-2.0
use Rattle.mhost.proofs.Reported.{reported}
use Rattle.mhost.proofs.report.report.Goals as goal

pub returns : goal.returns
returns g c =
    let sent = c.write_whole.ensures.sent in
    reported _ _ _ _ c.write_whole.result (rw c.fault_line.ensures at sent) c.write_whole.ensures.fault
