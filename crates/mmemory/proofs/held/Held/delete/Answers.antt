-- SPDX-License-Identifier: Apache-2.0
use Rattle.mmemory.proofs.MemoryLaws.{OnOk, not, subst, to_z-of_z, has_rowid, IsShaped-filter, tree_rows, rows_of, now, Writes, shape_at, Int}
use Rattle.mmemory.proofs.MemoryLaws.{falls_below_rowid, shaped_now, wrote_none, shaped_rows, row_cut, row_not}
use Rattle.mmemory.proofs.held.Held.delete.Goals as goal

pub seek-hit-requires : goal.seek-hit-requires
seek-hit-requires c =
    let fits = c.ranges.id in
    let was = rw c.requires.table at (shaped_rows c.args.self.now c.args.tree c.index.result.now c.requires.tree c.index.ensures) in
    simp to_z-of_z (falls_below_rowid (Int c.args.id) (tree_rows c.index.result.now) was.0)

pub returns-then-not-hit-clause-ok : goal.returns-then-not-hit-clause-ok
returns-then-not-hit-clause-ok c =
    let fits = c.ranges.id in
    let h = c.args.self.now in
    let was = rw c.requires.table at (shaped_rows h c.args.tree c.index.result.now c.requires.tree c.index.ensures) in
    let it = rw c.if-not-hit.true at (simp to_z-of_z at c.seek-hit.ensures) in
    wrote_none h c.args.tree _ (row_not h c.args.tree c.index.result.now c.requires.tree c.index.ensures c.seek-hit.result.0 c.args.id was.0 it)

pub change-requires-clause-shaped : goal.change-requires-clause-shaped
change-requires-clause-shaped c =
    let fits = c.ranges.id in
    let h = c.args.self.now in
    let was = rw c.requires.table at (shaped_rows h c.args.tree c.index.result.now c.requires.tree c.index.ensures) in
    let it = rw c.if-not-hit.false at (simp to_z-of_z at c.seek-hit.ensures) in
    let made = row_cut h c.args.tree c.index.result.now c.requires.tree c.index.ensures c.seek-hit.result.0 c.args.id was.0 it in
    rw made (IsShaped-filter (shape_at h c.args.tree) (λ r. not (has_rowid c.args.id r)) (rows_of (now h) c.args.tree) (shaped_now h c.args.tree))

pub returns-clause-ok : goal.returns-clause-ok
returns-clause-ok c =
    let fits = c.ranges.id in
    let h = c.args.self.now in
    let was = rw c.requires.table at (shaped_rows h c.args.tree c.index.result.now c.requires.tree c.index.ensures) in
    let it = rw c.if-not-hit.false at (simp to_z-of_z at c.seek-hit.ensures) in
    let made = row_cut h c.args.tree c.index.result.now c.requires.tree c.index.ensures c.seek-hit.result.0 c.args.id was.0 it in
    subst (λ rows. OnOk c.change.result (Writes h c.change.new.self c.args.tree rows)) made c.change.ensures.ok
