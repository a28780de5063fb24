-- SPDX-License-Identifier: Apache-2.0
use Rattle.mmemory.proofs.MemoryLaws.{OnOk, not, is_eq, subst, entry_cmp, IsShaped-filter, tree_rows, rows_of, now, Writes, shape_at, falls_below_entry}
use Rattle.mmemory.proofs.MemoryLaws.{shaped_now, wrote_none, shaped_rows, entry_cut, entry_not}
use Rattle.mmemory.proofs.held.Held.remove.Goals as goal

pub seek-hit-requires : goal.seek-hit-requires
seek-hit-requires c =
    let was = rw c.requires.index at (shaped_rows c.args.self.now c.args.tree c.index.result.now c.requires.tree c.index.ensures) in
    falls_below_entry c.args.order c.args.entry.now (tree_rows c.index.result.now) was

pub returns-then-not-hit-clause-ok : goal.returns-then-not-hit-clause-ok
returns-then-not-hit-clause-ok c =
    let h = c.args.self.now in
    let was = rw c.requires.index at (shaped_rows h c.args.tree c.index.result.now c.requires.tree c.index.ensures) in
    let it = rw c.if-not-hit.true at c.seek-hit.ensures in
    wrote_none h c.args.tree _ (entry_not h c.args.tree c.index.result.now c.requires.tree c.index.ensures c.seek-hit.result.0 c.args.order c.args.entry was it)

pub change-requires-clause-shaped : goal.change-requires-clause-shaped
change-requires-clause-shaped c =
    let h = c.args.self.now in
    let was = rw c.requires.index at (shaped_rows h c.args.tree c.index.result.now c.requires.tree c.index.ensures) in
    let it = rw c.if-not-hit.false at c.seek-hit.ensures in
    let made = entry_cut h c.args.tree c.index.result.now c.requires.tree c.index.ensures c.seek-hit.result.0 c.args.order c.args.entry was it in
    rw made (IsShaped-filter (shape_at h c.args.tree) (λ e. not (is_eq (entry_cmp c.args.order e c.args.entry.now))) (rows_of (now h) c.args.tree) (shaped_now h c.args.tree))

pub returns-clause-ok : goal.returns-clause-ok
returns-clause-ok c =
    let h = c.args.self.now in
    let was = rw c.requires.index at (shaped_rows h c.args.tree c.index.result.now c.requires.tree c.index.ensures) in
    let it = rw c.if-not-hit.false at c.seek-hit.ensures in
    let made = entry_cut h c.args.tree c.index.result.now c.requires.tree c.index.ensures c.seek-hit.result.0 c.args.order c.args.entry was it in
    subst (λ rows. OnOk c.change.result (Writes h c.change.new.self c.args.tree rows)) made c.change.ensures.ok
