-- SPDX-License-Identifier: Apache-2.0
use Rattle.mlocal.proofs.LocalLaws.{free_from}
use Rattle.mlocal.proofs.level.unlinked_home.Goals as goal

pub loop-place-init : goal.loop-place-init
loop-place-init c =
    let start = c.start_at-place.ensures in
    (start.within, free_from c.args.name.now c.args.levels.now _ start.within start.free)
