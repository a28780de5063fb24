-- SPDX-License-Identifier: Apache-2.0
use Rattle.mmemory.proofs.MemoryLaws.{set, arith, plain, with_chunks, changed}
use Rattle.mmemory.proofs.tree.Tree.set_row.Goals as goal

pub returns-then-at-len : goal.returns-then-at-len
returns-then-at-len c =
    let t = c.args.self.now in
    let low = c.if-chunk-len.true in
    let len = c.len.ensures in
    let is = changed (λ rows. set rows c.args.at c.args.row) t.chunks.items c.args.chunk c.index_mut.result.now c.set.new.self (omega arith) c.index_mut.ensures.value c.set.ensures.rows in
    λ i. with_chunks (plain t) (is i)
