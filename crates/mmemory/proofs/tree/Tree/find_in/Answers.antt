-- SPDX-License-Identifier: Apache-2.0
use Rattle.mmemory.proofs.MemoryLaws.{◌≡◌, [], get_or, sym, ◌∙◌, arith, chunk_rows, nest, passes, shown_at, found_within}
use Rattle.mmemory.proofs.tree.Tree.find_in.Goals as goal

pub returns-clause-splits : goal.returns-clause-splits
returns-clause-splits c =
    let chunks = c.args.self.now.chunks.items in
    let at = c.args.chunk in
    let found = rw c.deref.ensures.value at c.in-Some.ensures.lookup in
    let rows : get_or (nest chunks) at [] ≡ c.as_slice.result.now =
    shown_at chunk_rows chunks at [] c.in-Some.found.now found.3.0 found.1 ∙ sym c.as_slice.ensures.value in
    found_within (passes c.args.probe) chunks at c.row_edge-row.result c.requires found.3.0
    (rw rows c.row_edge-row.ensures.within) (rw rows c.row_edge-row.ensures.edge) (λ none. omega arith) (λ full. grind arith)
