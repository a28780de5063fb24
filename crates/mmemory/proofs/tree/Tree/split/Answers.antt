-- SPDX-License-Identifier: Apache-2.0
use Rattle.mmemory.proofs.MemoryLaws.{◌≡◌, ◌<◌, [], length, set, ap, ◌∙◌, arith, length-map, set-get_or, plain, chunk_rows, nest, with_chunks, after_error}
use Rattle.mmemory.proofs.MemoryLaws.{changed, halves_made, halves_fit, made_halves}
use Rattle.mmemory.proofs.tree.Tree.split.Goals as goal

pub returns-in_err-tail-clause-err : goal.returns-in_err-tail-clause-err
returns-in_err-tail-clause-err c =
    let t = c.args.self.now in
    let k = c.args.at in
    let kept = c.in_ok-reserve.ensures.items in
    let low : k < length c.reserve.new.self.items = rw kept (omega (arith, c.requires.chunk, length-map t.chunks.items chunk_rows)) in
    let is : nest (set c.reserve.new.self.items k c.split.new.self) ≡ nest t.chunks.items =
    changed (λ r. r) c.reserve.new.self.items k c.index_mut.result.now c.split.new.self low c.index_mut.ensures.value c.in_err-tail.ensures.err
    ∙ set-get_or (nest c.reserve.new.self.items) k [] ∙ ap nest kept in
    let same : with_chunks (plain t) (nest (set c.reserve.new.self.items k c.split.new.self)) ≡ plain t = λ i. with_chunks (plain t) (is i) in
    after_error _ same

pub returns-clause-halves : goal.returns-clause-halves
returns-clause-halves c =
    let t = c.args.self.now in
    let low : c.args.at < length t.chunks.items = omega (arith, c.requires.chunk, length-map t.chunks.items chunk_rows) in
    halves_made t.chunks.items c.reserve.new.self.items c.insert.new.self.items c.args.at c.index_mut.result.now c.split.new.self c.in_ok-tail.tail c.in_ok-reserve.ensures.items low c.index_mut.ensures.value c.in_ok-tail.ensures.rows
    (rw c.unwrap.ensures at c.insert.ensures.items)

pub returns-clause-ok : goal.returns-clause-ok
returns-clause-ok c =
    let t = c.args.self.now in
    let low : c.args.at < length t.chunks.items = omega (arith, c.requires.chunk, length-map t.chunks.items chunk_rows) in
    let h = halves_made t.chunks.items c.reserve.new.self.items c.insert.new.self.items c.args.at c.index_mut.result.now c.split.new.self c.in_ok-tail.tail c.in_ok-reserve.ensures.items low c.index_mut.ensures.value c.in_ok-tail.ensures.rows
    (rw c.unwrap.ensures at c.insert.ensures.items) in
    made_halves (plain t) c.args.at (nest c.insert.new.self.items) h c.requires.chunk (halves_fit t.chunks.items c.args.at h.head h.tail h.both)
