-- SPDX-License-Identifier: Apache-2.0
use Rattle.mmemory.proofs.MemoryLaws.{OnOk, subst, IsIndex-insert_entry, tree_rows, rows_of, now, Writes, falls_below_entry, shaped_now, wrote_none}
use Rattle.mmemory.proofs.MemoryLaws.{shaped_rows, entry_new, entry_stays}
use Rattle.mmemory.proofs.held.Held.insert.Goals as goal

pub seek-hit-requires : goal.seek-hit-requires
seek-hit-requires c =
    let was = rw c.requires.index at (shaped_rows c.args.self.now c.args.tree c.index.result.now c.requires.tree c.index.ensures) in
    falls_below_entry c.args.order c.args.entry.now (tree_rows c.index.result.now) was

pub returns-then-hit-clause-ok : goal.returns-then-hit-clause-ok
returns-then-hit-clause-ok c =
    let h = c.args.self.now in
    let it = rw c.if-hit.true at c.seek-hit.ensures in
    wrote_none h c.args.tree _ (entry_stays h c.args.tree c.index.result.now c.requires.tree c.index.ensures c.seek-hit.result.0 c.args.order c.args.entry it)

pub add-requires-clause-shaped : goal.add-requires-clause-shaped
add-requires-clause-shaped c =
    let h = c.args.self.now in
    let it = rw c.if-hit.false at c.seek-hit.ensures in
    let made = entry_new h c.args.tree c.index.result.now c.requires.tree c.index.ensures c.seek-hit.result.0 c.args.order c.args.entry c.in_ok-new.new c.in_ok-new.ensures it in
    let was = rw c.requires.index at (shaped_now h c.args.tree) in
    rw (c.requires.index, made) (IsIndex-insert_entry c.args.order c.args.entry.now (rows_of (now h) c.args.tree) was)

pub returns-clause-ok : goal.returns-clause-ok
returns-clause-ok c =
    let h = c.args.self.now in
    let it = rw c.if-hit.false at c.seek-hit.ensures in
    let made = entry_new h c.args.tree c.index.result.now c.requires.tree c.index.ensures c.seek-hit.result.0 c.args.order c.args.entry c.in_ok-new.new c.in_ok-new.ensures it in
    subst (λ rows. OnOk c.add.result (Writes h c.add.new.self c.args.tree rows)) made c.add.ensures.ok
