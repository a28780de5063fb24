-- SPDX-License-Identifier: Apache-2.0
use Rattle.mmemory.proofs.MemoryLaws.{put_in, plain, made_over, made_put, some_at}
use Rattle.mmemory.proofs.tree.Tree.put_at.Goals as goal

pub returns : goal.returns
returns c =
    let t = c.args.self.now in
    let p = c.args.place in
    made_over t p.chunk c.index_mut.result.now c.put.new.self c.requires.chunk c.index_mut.ensures.value (put_in p.row c.args.row) _ _ c.put.ensures
    (made_put (plain t) p.chunk p.row c.args.row c.requires.chunk c.requires.row c.requires.room (some_at t.chunks.items p.chunk c.requires.chunk))
