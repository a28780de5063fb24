-- SPDX-License-Identifier: Apache-2.0
use Rattle.mmemory.proofs.MemoryLaws.{◌≡◌, ◌-◌, [], get_or, sym, ap, ◌∙◌, chunk_rows, nest, passes, shown_at, tree_found}
use Rattle.mmemory.proofs.tree.Tree.find_among.Goals as goal

pub returns-clause-splits : goal.returns-clause-splits
returns-clause-splits c =
    let chunks = c.args.self.now.chunks.items in
    let past = c.chunk_edge-past.result in
    let at = c.max-chunk.result - 1 in
    let found = rw c.deref.ensures.value at c.in-Some.ensures.lookup in
    let rows : c.as_slice-2.result.now ≡ get_or (nest chunks) at [] =
    c.as_slice-2.ensures.value ∙ sym (shown_at chunk_rows chunks at [] c.in-Some.found.now found.3.0 found.1) in
    tree_found (passes c.args.probe) chunks past c.row_edge-row.result at c.as_slice-2.result.now c.requires (rw c.as_slice.ensures.value at c.chunk_edge-past.ensures.within) (rw c.as_slice.ensures.value at c.chunk_edge-past.ensures.edge) (ap (λ k. k - 1) c.max-chunk.ensures) rows
    c.row_edge-row.ensures.within c.row_edge-row.ensures.edge
