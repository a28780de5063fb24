-- SPDX-License-Identifier: Apache-2.0
use Rattle.mmemory.proofs.MemoryLaws.{arith, put_in, plain, with_chunks, changed}
use Rattle.mmemory.proofs.tree.Tree.put_row.Goals as goal

pub returns-then-chunk-len : goal.returns-then-chunk-len
returns-then-chunk-len c =
    let t = c.args.self.now in
    let low = c.if-chunk-len.true in
    let len = c.len.ensures in
    let is = changed (put_in c.args.at c.args.row) t.chunks.items c.args.chunk c.index_mut.result.now c.put.new.self (omega arith) c.index_mut.ensures.value c.put.ensures in
    λ i. with_chunks (plain t) (is i)
