-- SPDX-License-Identifier: Apache-2.0
use Rattle.mmemory.proofs.MemoryLaws.{OnOk, subst, owned, IsShaped-put_row, tree_rows, rows_of, now, Writes, falls_below_rowid, shaped_now, shaped_rows}
use Rattle.mmemory.proofs.MemoryLaws.{put_over, put_new}
use Rattle.mmemory.proofs.held.Held.put.Goals as goal

pub seek-hit-requires : goal.seek-hit-requires
seek-hit-requires c =
    let was = rw c.requires.table at (shaped_rows c.args.self.now c.args.tree c.index.result.now c.requires.tree c.index.ensures) in
    falls_below_rowid (owned c.get.result) (tree_rows c.index.result.now) was.0

pub change-requires-clause-shaped : goal.change-requires-clause-shaped
change-requires-clause-shaped c =
    let h = c.args.self.now in
    let it = rw c.if-hit.true at c.seek-hit.ensures in
    let made = put_over h c.args.tree c.index.result.now c.requires.tree c.index.ensures c.seek-hit.result.0 c.get.result c.in_ok-new.new c.args.row.now c.in_ok-new.ensures c.get.ensures it in
    let was = rw c.requires.table at (shaped_now h c.args.tree) in
    rw (c.requires.table, made) (IsShaped-put_row c.args.row.now (rows_of (now h) c.args.tree) c.requires.keyed was)

pub returns-then-hit-clause-ok : goal.returns-then-hit-clause-ok
returns-then-hit-clause-ok c =
    let h = c.args.self.now in
    let it = rw c.if-hit.true at c.seek-hit.ensures in
    let made = put_over h c.args.tree c.index.result.now c.requires.tree c.index.ensures c.seek-hit.result.0 c.get.result c.in_ok-new.new c.args.row.now c.in_ok-new.ensures c.get.ensures it in
    subst (λ rows. OnOk c.change.result (Writes h c.change.new.self c.args.tree rows)) made c.change.ensures.ok

pub add-requires-clause-shaped : goal.add-requires-clause-shaped
add-requires-clause-shaped c =
    let h = c.args.self.now in
    let it = rw c.if-hit.false at c.seek-hit.ensures in
    let made = put_new h c.args.tree c.index.result.now c.requires.tree c.index.ensures c.seek-hit.result.0 c.get.result c.in_ok-new.new c.args.row.now c.in_ok-new.ensures c.get.ensures it in
    let was = rw c.requires.table at (shaped_now h c.args.tree) in
    rw (c.requires.table, made) (IsShaped-put_row c.args.row.now (rows_of (now h) c.args.tree) c.requires.keyed was)

pub returns-clause-ok : goal.returns-clause-ok
returns-clause-ok c =
    let h = c.args.self.now in
    let it = rw c.if-hit.false at c.seek-hit.ensures in
    let made = put_new h c.args.tree c.index.result.now c.requires.tree c.index.ensures c.seek-hit.result.0 c.get.result c.in_ok-new.new c.args.row.now c.in_ok-new.ensures c.get.ensures it in
    subst (λ rows. OnOk c.add.result (Writes h c.add.new.self c.args.tree rows)) made c.add.ensures.ok
