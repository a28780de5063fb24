-- SPDX-License-Identifier: Apache-2.0
use Rattle.mmemory.proofs.MemoryLaws.{wrote_same, shaped_now, moved_at}
use Rattle.mmemory.proofs.held.Held.halve.Goals as goal

pub change-requires-clause-shaped : goal.change-requires-clause-shaped
change-requires-clause-shaped c = shaped_now c.args.self.now c.args.tree

pub returns-clause-ok : goal.returns-clause-ok
returns-clause-ok c = wrote_same c.args.self.now c.change.new.self c.args.tree c.in_ok-change.ensures.ok

pub returns-clause-moved : goal.returns-clause-moved
returns-clause-moved c =
    let h = c.args.self.now in
    let split = c.in_ok-change.ensures in
    moved_at h c.change.new.self c.args.tree c.args.place c.moved.result c.index-2.result.now c.rows_at-head.result.now (wrote_same h c.change.new.self c.args.tree split.ok) split.halves
    c.requires.tree c.requires.chunk c.requires.row c.index-2.ensures c.rows_at-head.ensures.rows c.moved.ensures
