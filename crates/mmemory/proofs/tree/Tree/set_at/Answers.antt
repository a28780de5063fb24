-- SPDX-License-Identifier: Apache-2.0
use Rattle.mmemory.proofs.MemoryLaws.{◌+◌, ◌++◌, ◌∷◌, set, sym, subst, ◌∙◌, SetRow, before, after_row, plain, nest, tree_nest, with_chunks, Makes, rows_were}
use Rattle.mmemory.proofs.MemoryLaws.{made_over, made_set}
use Rattle.mmemory.proofs.tree.Tree.set_at.Goals as goal

pub returns : goal.returns
returns c =
    let t = c.args.self.now in
    let p = c.args.place in
    let was = c.index_mut.result.now in
    let new = c.set-old.new.self in
    let rows = before (tree_nest t) p ++ c.args.row ∷ after_row (tree_nest t) p (p.row + 1) in
    subst (λ row. Makes (plain t) (with_chunks (plain t) (nest (set t.chunks.items p.chunk new))) (SetRow p.chunk p.row row) rows)
    (rows_were t p.chunk was new c.requires.chunk c.index_mut.ensures.value p.row ∙ sym c.set-old.ensures.row)
    (made_over t p.chunk was new c.requires.chunk c.index_mut.ensures.value (λ r. set r p.row c.args.row) _ rows c.set-old.ensures.rows
    (made_set (plain t) p.chunk p.row c.args.row c.requires.chunk c.requires.row))
