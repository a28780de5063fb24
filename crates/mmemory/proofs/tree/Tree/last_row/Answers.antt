-- SPDX-License-Identifier: Apache-2.0
use Rattle.mmemory.proofs.MemoryLaws.{◌≡◌, ◌-◌, [], length, take, ap, sym, ◌∙◌, arith, length-map, rows_at, chunk_rows, tree_nest, shown_at, chunk_end}
use Rattle.mmemory.proofs.MemoryLaws.{some_weaker}
use Rattle.mmemory.proofs.tree.Tree.last_row.Goals as goal

pub returns-clause-some : goal.returns-clause-some
returns-clause-some c =
    let t = c.args.self.now in
    let n = tree_nest t in
    let p = c.args.place in
    let none : take p.row (rows_at n p) ≡ [] = rw c.in_default.is at c.row_before.ensures.none in
    let count : length n ≡ length t.chunks.items = length-map t.chunks.items chunk_rows in
    let some = c.if-at-eq0.false in
    let is = c.min-at.ensures in
    let len = c.len.ensures in
    let rows = shown_at chunk_rows t.chunks.items (c.min-at.result - 1) [] c.index.result.now (omega arith) c.index.ensures in
    some_weaker c.row_before-2.result (λ found h. sym (chunk_end n p (c.min-at.result - 1) c.len-2.result none (omega arith) (c.len-2.ensures ∙ c.index.result.now.rows.ok.0 ∙ ap length (sym rows))) ∙ h) c.row_before-2.ensures.some
