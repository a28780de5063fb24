-- SPDX-License-Identifier: Apache-2.0
use Rattle.mmemory.proofs.MemoryLaws.{◌≡◌, ◌++◌, ◌∷◌, take, drop, sym, ap, subst, ◌∙◌, DropChunk, joined, plain, nest, tree_nest, with_chunks, Makes}
use Rattle.mmemory.proofs.MemoryLaws.{nest_inserted, made_add}
use Rattle.std.specs.List.{insert as inserted}
use Rattle.mmemory.proofs.tree.Tree.add_chunk.Goals as goal

pub returns-clause-ok : goal.returns-clause-ok
returns-clause-ok c =
    let t = c.args.self.now in
    let n = tree_nest t in
    let k = c.args.at in
    let items : c.insert.new.self.items ≡ inserted t.chunks.items k c.in_ok-chunk.chunk =
    (rw c.unwrap.ensures at c.insert.ensures.items) ∙ ap (λ xs. inserted xs k c.in_ok-chunk.chunk) c.in_ok-reserve.ensures.items in
    let is = ap nest items ∙ nest_inserted t.chunks.items k c.in_ok-chunk.chunk ∙ ap (inserted n k) c.in_ok-chunk.ensures in
    subst (λ chunks. Makes (plain t) (with_chunks (plain t) chunks) (DropChunk k) (joined (take k n) ++ c.args.row ∷ joined (drop k n))) (sym is)
    (made_add (plain t) k c.args.row c.requires)
