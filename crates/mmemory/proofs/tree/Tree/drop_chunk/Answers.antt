-- SPDX-License-Identifier: Apache-2.0
use Rattle.mmemory.proofs.MemoryLaws.{ap, ◌∙◌, plain, with_chunks, nest, nest_removed}
use Rattle.mmemory.proofs.tree.Tree.drop_chunk.Goals as goal

pub returns-then-chunk-len : goal.returns-then-chunk-len
returns-then-chunk-len c =
    let t = c.args.self.now in
    let is = ap nest c.remove.ensures.items ∙ nest_removed t.chunks.items c.args.chunk in
    λ i. with_chunks (plain t) (is i)
