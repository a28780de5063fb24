-- SPDX-License-Identifier: Apache-2.0
use Rattle.mmemory.proofs.MemoryLaws.{sym, ◌∙◌, inl, arith, tree_nest, within_chunks}
use Rattle.mmemory.proofs.tree.Tree.seek.Goals as goal

pub returns-in-Some : goal.returns-in-Some
returns-in-Some c =
    let n = tree_nest c.args.self.now in
    let next = c.in-Some.ensures.some in
    record {
      splits = rw (next.same, next.from_it) c.find-place.ensures.splits;
      skips = (c.in-Some.row.now, next.from_it ∙ next.is, sym c.meets.ensures ∙ c.if-meets.true);
      chunk = inl (within_chunks n c.in-Some.at.chunk (omega (arith, next.within)));
      row = omega (arith, next.within);
      there = λ _. next.within;
    }
