-- SPDX-License-Identifier: Apache-2.0
use Rattle.mmemory.proofs.MemoryLaws.{◌≡◌, [], ◌∷◌, true, get_or, refl, sym, ap, ◌∙◌, arith, to_z-of_z, no_doubt, after, tree_nest, tree_rows, Int}
use Rattle.mmemory.proofs.MemoryLaws.{falls_below_rowid, table_within, rows_up, named_found, named_missing, Memory, after_error, fails, keeps_untouched}
use Rattle.mmemory.proofs.MemoryLaws.{seen_same}
use Rattle.mmemory.proofs.memory.MemoryStore.get.Goals as goal

pub index-tree-requires : goal.index-tree-requires
index-tree-requires c =
    omega (arith, table_within c.args.self.now c.args.table (omega arith) (c.requires (no_doubt true refl)), c.args.self.now.held.trees.ok.0)

pub find-place-requires : goal.find-place-requires
find-place-requires c =
    let fits = c.ranges.id in
    let y = c.index-tree.result.now in
    simp to_z-of_z (falls_below_rowid (Int c.args.id) (tree_rows y) (rows_up c.args.self.now c.args.table (omega arith) (c.requires (no_doubt true refl)) y c.index-tree.ensures))

pub returns-in_ok-copy_to-in-Some-clause-ok : goal.returns-in_ok-copy_to-in-Some-clause-ok
returns-in_ok-copy_to-in-Some-clause-ok c _ =
    let fits = c.ranges.id in
    named_found c.args.self.now c.args.table (omega arith) (c.requires (no_doubt true refl)) c.index-tree.result.now c.index-tree.ensures c.args.id c.find-place.result (simp to_z-of_z at c.find-place.ensures.splits)
    c.in-Some.found.now _ c.in-Some.ensures.some.is (sym (simp to_z-of_z at c.meets.ensures) ∙ c.if-meets.true)
    ∙ ap (λ r. r ∷ []) (sym c.in_ok-copy_to-in-Some.ensures)

pub returns-in_default-clause-ok : goal.returns-in_default-clause-ok
returns-in_default-clause-ok c _ =
    let fits = c.ranges.id in
    let met = simp to_z-of_z at c.meets.ensures in
    named_missing c.args.self.now c.args.table (omega arith) (c.requires (no_doubt true refl)) c.index-tree.result.now c.index-tree.ensures c.args.id c.find-place.result (simp to_z-of_z at c.find-place.ensures.splits)
    (λ found more at. let same : found ≡ c.in-Some.found.now = ap (λ l. get_or l 0 found) (sym at ∙ c.in-Some.ensures.some.is) in rw same (sym met ∙ c.if-meets.false))

pub returns-in_default-2-clause-ok : goal.returns-in_default-2-clause-ok
returns-in_default-2-clause-ok c _ =
    let fits = c.ranges.id in
    let over : after (tree_nest c.index-tree.result.now) c.find-place.result ≡ [] = rw c.in_default.is at c.next_row.ensures.none in
    named_missing c.args.self.now c.args.table (omega arith) (c.requires (no_doubt true refl)) c.index-tree.result.now c.index-tree.ensures c.args.id c.find-place.result (simp to_z-of_z at c.find-place.ensures.splits)
    (λ found more at. absurd (cc))

pub returns-in_err-copy_to-in-Some-clause-err : goal.returns-in_err-copy_to-in-Some-clause-err
returns-in_err-copy_to-in-Some-clause-err c =
    let s = c.args.self.now in
    let new : Memory = record { held = s.held; cursors = s.cursors; near = c.keep.new.self } in
    fails s new c.from_residual.result (after_error _ (seen_same s.held s.held (keeps_untouched s.held s.held refl refl refl refl)))
