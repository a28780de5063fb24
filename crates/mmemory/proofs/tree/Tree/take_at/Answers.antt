-- SPDX-License-Identifier: Apache-2.0
use Rattle.mmemory.proofs.MemoryLaws.{◌≡◌, ◌<◌, ◌+◌, ◌++◌, [], length, set, sym, ap, subst, ◌∙◌, arith, length-map, PutRow, PutChunk, before, after_row}
use Rattle.mmemory.proofs.MemoryLaws.{rows_at, plain, bare_rows, chunk_rows, nest, tree_nest, with_chunks, Makes, shown_at, rows_were, made_over, made_cut}
use Rattle.mmemory.proofs.MemoryLaws.{made_none}
use Rattle.mmemory.proofs.MemoryLaws.{nest_removed, short_at}
use Rattle.std.specs.List.{remove as removed}
use Rattle.mmemory.proofs.tree.Tree.take_at.Goals as goal

pub returns-then-len-eq1 : goal.returns-then-len-eq1
returns-then-len-eq1 c =
    let t = c.args.self.now in
    let p = c.args.place in
    let n = tree_nest t in
    let low : p.chunk < length t.chunks.items = omega (arith, c.requires.chunk, length-map t.chunks.items chunk_rows) in
    let here : rows_at n p ≡ chunk_rows c.index.result.now = shown_at chunk_rows t.chunks.items p.chunk [] c.index.result.now low c.index.ensures in
    let one : length (rows_at n p) ≡ 1 = ap length here ∙ sym c.index.result.now.rows.ok.0 ∙ sym c.len.ensures ∙ c.if-len-eq1.true in
    let first : p.row ≡ 0 = omega (arith, c.requires.row) in
    let it : bare_rows c.into_bare.result ≡ rows_at n p = c.into_bare.ensures ∙ sym (shown_at chunk_rows t.chunks.items p.chunk [] c.remove-old.result low c.remove-old.ensures.value) in
    let is : nest c.remove-old.new.self.items ≡ removed n p.chunk = ap nest c.remove-old.ensures.items ∙ nest_removed t.chunks.items p.chunk in
    subst (λ chunks. Makes (plain t) (record { shape = t.shape; reals = t.reals; described = t.described; chunks = chunks; spare = t.spare + 1 }) (PutChunk p.chunk c.into_bare.result) (before n p ++ after_row n p (p.row + 1))) (sym is)
    (made_none (plain t) p.chunk p.row c.into_bare.result c.requires.chunk first one it)

pub returns : goal.returns
returns c =
    let t = c.args.self.now in
    let p = c.args.place in
    let was = c.index_mut.result.now in
    let new = c.take-old.new.self in
    let rows = before (tree_nest t) p ++ after_row (tree_nest t) p (p.row + 1) in
    subst (λ row. Makes (plain t) (with_chunks (plain t) (nest (set t.chunks.items p.chunk new))) (PutRow p.chunk p.row row) rows)
    (rows_were t p.chunk was new c.requires.chunk c.index_mut.ensures.value p.row ∙ sym c.take-old.ensures.row)
    (made_over t p.chunk was new c.requires.chunk c.index_mut.ensures.value (λ r. removed r p.row) _ rows c.take-old.ensures.rows
    (made_cut (plain t) p.chunk p.row c.requires.chunk c.requires.row (short_at t.chunks.items p.chunk)))
