-- SPDX-License-Identifier: Apache-2.0
use Rattle.mmemory.proofs.MemoryLaws.{◌≡◌, ◌≢◌, ℕ, zero, suc, ◌-◌, min, List, length, sym, ap, ◌∙◌, refl, arith, insert, length-map, Row, Plain, plain}
use Rattle.mmemory.proofs.MemoryLaws.{bare_rows, chunk_rows, nest, put_back, nest_inserted, insert_min}
use Rattle.mmemory.proofs.tree.Tree.put_chunk.Goals as goal

pub returns : goal.returns
returns c =
    let t = c.args.self.now in
    let k = c.args.chunk in
    let back = c.of_bare-back.result in
    let items : c.insert.new.self.items ≡ insert t.chunks.items c.min-at.result back = rw c.unwrap.ensures at c.insert.ensures.items in
    let at : c.min-at.result ≡ min k (length (nest t.chunks.items)) =
    c.min-at.ensures ∙ ap (min k) (c.len.ensures ∙ t.chunks.ok.0 ∙ sym (length-map t.chunks.items chunk_rows)) in
    let is : nest c.insert.new.self.items ≡ insert (nest t.chunks.items) k (bare_rows c.args.it) =
    ap nest items ∙ nest_inserted t.chunks.items c.min-at.result back ∙ ap (λ j. insert (nest t.chunks.items) j (chunk_rows back)) at ∙ insert_min (nest t.chunks.items) k (chunk_rows back)
    ∙ ap (insert (nest t.chunks.items) k) c.of_bare-back.ensures in
    (λ i. record { shape = t.shape; reals = t.reals; described = t.described; chunks = is i; spare = t.spare - 1 }) ∙ sym (put_back_some k (bare_rows c.args.it) t.spare (plain t) c.if-self-eq0.false)
  where
    put_back_some : (k : ℕ) (rows : List Row) (spare : ℕ) (p : Plain) → spare ≢ 0
        → put_back k rows spare p ≡ record { shape = p.shape; reals = p.reals; described = p.described; chunks = insert p.chunks k rows; spare = spare - 1 }
    put_back_some k rows zero p some = absurd (some refl)
    put_back_some k rows (suc n) p some =
        let less : n ≡ suc n - 1 = omega arith in λ i. record { shape = p.shape; reals = p.reals; described = p.described; chunks = insert p.chunks k rows; spare = less i }
