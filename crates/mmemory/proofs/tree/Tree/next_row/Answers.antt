-- SPDX-License-Identifier: Apache-2.0
use Rattle.mmemory.proofs.MemoryLaws.{◌+◌, ◌≤◌, [], length, get_or, rows_at, tree_nest, chunks_some, nothing_after}
use Rattle.mmemory.proofs.tree.Tree.next_row.Goals as goal

pub returns-in-None-clause-none : goal.returns-in-None-clause-none
returns-in-None-clause-none c =
    let n = tree_nest c.args.self.now in
    let p = c.args.place in
    let past : length (rows_at n p) ≤ p.row = rw c.rows_at.ensures.rows at (rw c.in_default.is at c.get.ensures.lookup).3 in
    let none : length (get_or n (p.chunk + 1) []) ≤ 0 = rw c.rows_at-2.ensures.rows at (rw c.in-None.is at c.get-2.ensures.lookup).3 in
    nothing_after n p past (chunks_some c.args.self.now.chunks.items) none
