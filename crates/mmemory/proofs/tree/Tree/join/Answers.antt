-- SPDX-License-Identifier: Apache-2.0
use Rattle.mmemory.proofs.MemoryLaws.{arith, plain, with_chunks, join_made}
use Rattle.mmemory.proofs.tree.Tree.join.Goals as goal

pub returns : goal.returns
returns c =
    let t = c.args.self.now in
    let k = c.args.chunk in
    let len = c.len.ensures in
    let more = c.if-len-lt2.false in
    let low = c.if-chunk-len.false in
    let room = c.if-len-gt-CHUNK_LIMIT.false in
    let is = join_made t.chunks.items k c.index.result.now c.index-2.result.now c.index_mut.result.now c.join.new.self c.remove-tail.result c.remove-tail.new.self.items (omega arith)
    c.index.ensures c.index-2.ensures (omega (arith, c.len-2.ensures, c.len-3.ensures)) c.remove-tail.ensures.items c.remove-tail.ensures.value c.index_mut.ensures.value c.join.ensures in
    λ i. with_chunks (plain t) (is i)
