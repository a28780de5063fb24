-- SPDX-License-Identifier: Apache-2.0
use Rattle.mwire.proofs.Gathers.{Gathered-finished}
use Rattle.mwire.proofs.events.gather_end.Goals as goal

pub returns : goal.returns
returns c = λ past.
    Gathered-finished past _ _ _ c.args.bytes.now c.finished.result.now _ _ c.requires c.extend.ensures c.clear.ensures c.finished.ensures c.in_ok-gather_line.ensures
