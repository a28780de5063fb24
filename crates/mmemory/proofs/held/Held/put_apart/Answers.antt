-- SPDX-License-Identifier: Apache-2.0
use Rattle.mmemory.proofs.MemoryLaws.{ok_weaker, fits_moved, wrote_moved}
use Rattle.mmemory.proofs.held.Held.put_apart.Goals as goal

pub change-requires-clause-shaped : goal.change-requires-clause-shaped
change-requires-clause-shaped c =
    let it = c.in_ok-place.ensures in
    fits_moved c.args.self.now c.halve.new.self c.args.tree c.args.place c.in_ok-place.place c.args.row it.ok it.moved c.requires.shaped

pub returns-clause-ok : goal.returns-clause-ok
returns-clause-ok c =
    let it = c.in_ok-place.ensures in
    ok_weaker c.change.result (wrote_moved c.args.self.now c.halve.new.self c.args.tree c.args.place c.in_ok-place.place c.args.row it.ok it.moved c.change.new.self) c.change.ensures.ok
