-- SPDX-License-Identifier: Apache-2.0
-- What the writes make of a tree of the transaction.
use Rattle.mmemory.proofs.MemoryWords.{Bor, ◌≡◌, ℕ, ℤ, ◌+◌, ◌<◌, true, false, List, ◌∷◌, ◌++◌, length, get_or, refl, sym, ap, subst, ◌∙◌, inl, inr, eq-eqb}
use Rattle.mmemory.proofs.MemoryWords.{ne_eqb, arith, cases_eq, Order, owned, Row, rowid, IsTable, IsIndex, put_row, insert_entry, without_rowid, remove_entry}
use Rattle.mmemory.proofs.MemoryWords.{IsShaped, Held, Tree, Place, joined, before, after, after_row, Plain, plain, no_plain, tree_nest, tree_rows, rows_of}
use Rattle.mmemory.proofs.MemoryWords.{now, Writes, shape_at, nest_at}
use mathlib.Core.Path.{fun_ext}
use Rattle.sqlite_value.specs.declared.row.Row.{Row as Given}
use Rattle.sqlite_value.specs.declared.value.ValueRef.{ValueRef}
use Rattle.sqlite_value.specs.declared.value.ValueRef.TheVariants.{Int}
use Rattle.mmemory.specs.declared.probe.Probe.TheVariants.{BelowRowid, BelowEntry}
use Rattle.mmemory.specs.Sought.{IsSought}
use Rattle.mmemory.proofs.Shown.{shown_at}
use Rattle.mmemory.proofs.Nests.{whole}
use Rattle.mmemory.proofs.Logs.{shaped_now}
use Rattle.mmemory.proofs.Words.{put_made, rowid_gone, entry_gone, entry_put, entry_there}

-- no write of a tree that has these rows already
pub wrote_none : (h : Held) (t : ℕ) (rows : List Row) → rows_of (now h) t ≡ rows → Writes h h t rows
wrote_none h t rows is = record {
  keeps = record { past = λ n low. refl; longer = omega arith; marks = refl };
  headings_are = refl;
  rows_are = fun_ext (λ k. elim (cases_eq k t) [ inl same ↦ rw (eq-eqb k t same, same, is) refl | inr other ↦ rw (ne_eqb k t other) refl ]);
  version_is = refl;
}

module _ (h : Held) (t : ℕ) (y : Tree) (low : t < length h.trees.items) (is : y ≡ get_or h.trees.items t y) where
  nest_is : nest_at h t ≡ tree_nest y
  nest_is = ap (λ (p : Plain). p.chunks) (shown_at plain h.trees.items t no_plain y low is)

  pub shaped_rows : IsShaped (shape_at h t) (tree_rows y)
  shaped_rows = subst (λ n. IsShaped (shape_at h t) (joined n)) nest_is (shaped_now h t)

  module _ (p : Place) where
    module _ (id : ValueRef) (new given : Row) (same : new ≡ given) (key : owned id ≡ rowid given) where
      pub put_over : IsSought y (BelowRowid id) p true → before (nest_at h t) p ++ new ∷ after_row (nest_at h t) p (p.row + 1) ≡ put_row given (rows_of (now h) t)
      put_over it = ap (λ r. before (nest_at h t) p ++ r ∷ after_row (nest_at h t) p (p.row + 1)) same
          ∙ subst (λ n. before n p ++ given ∷ after_row n p (p.row + 1) ≡ put_row given (joined n)) (sym nest_is)
          (put_made given (owned id) (tree_rows y) _ _ _ _ true key (whole (tree_nest y) p) it.splits it.skips refl)

      pub put_new : IsSought y (BelowRowid id) p false → before (nest_at h t) p ++ new ∷ after (nest_at h t) p ≡ put_row given (rows_of (now h) t)
      put_new it = ap (λ r. before (nest_at h t) p ++ r ∷ after (nest_at h t) p) same
          ∙ subst (λ n. before n p ++ given ∷ after n p ≡ put_row given (joined n)) (sym nest_is)
          (put_made given (owned id) (tree_rows y) _ _ _ _ false key (whole (tree_nest y) p) it.splits it.skips refl)

    module _ (o : Order) (entry : Bor Given) where
      pub entry_new : (new : Row) → new ≡ entry.now → IsSought y (BelowEntry o entry) p false
          → before (nest_at h t) p ++ new ∷ after (nest_at h t) p ≡ insert_entry o entry.now (rows_of (now h) t)
      entry_new new same it = ap (λ r. before (nest_at h t) p ++ r ∷ after (nest_at h t) p) same
          ∙ subst (λ n. before n p ++ entry.now ∷ after n p ≡ insert_entry o entry.now (joined n)) (sym nest_is)
          (entry_put o entry.now (tree_rows y) _ _ _ _ (whole (tree_nest y) p) it.splits it.skips refl)

      pub entry_stays : IsSought y (BelowEntry o entry) p true → rows_of (now h) t ≡ insert_entry o entry.now (rows_of (now h) t)
      entry_stays it = subst (λ n. joined n ≡ insert_entry o entry.now (joined n)) (sym nest_is) (entry_there o entry.now (tree_rows y) _ _ _ (whole (tree_nest y) p) it.splits it.skips)

      module _ (up : IsIndex o (tree_rows y)) where
        pub entry_cut : IsSought y (BelowEntry o entry) p true → before (nest_at h t) p ++ after_row (nest_at h t) p (p.row + 1) ≡ remove_entry o entry.now (rows_of (now h) t)
        entry_cut it = subst (λ n. before n p ++ after_row n p (p.row + 1) ≡ remove_entry o entry.now (joined n)) (sym nest_is)
            (entry_gone o entry.now (tree_rows y) _ _ _ _ true up (whole (tree_nest y) p) it.splits it.skips refl)

        pub entry_not : IsSought y (BelowEntry o entry) p false → rows_of (now h) t ≡ remove_entry o entry.now (rows_of (now h) t)
        entry_not it = subst (λ n. joined n ≡ remove_entry o entry.now (joined n)) (sym nest_is)
            (entry_gone o entry.now (tree_rows y) _ _ _ _ false up (whole (tree_nest y) p) it.splits it.skips (whole (tree_nest y) p))

    module _ (id : ℤ) (up : IsTable (tree_rows y)) where
      pub row_cut : IsSought y (BelowRowid (Int id)) p true → before (nest_at h t) p ++ after_row (nest_at h t) p (p.row + 1) ≡ without_rowid id (rows_of (now h) t)
      row_cut it = subst (λ n. before n p ++ after_row n p (p.row + 1) ≡ without_rowid id (joined n)) (sym nest_is)
          (rowid_gone id (tree_rows y) _ _ _ _ true up (whole (tree_nest y) p) it.splits it.skips refl)

      pub row_not : IsSought y (BelowRowid (Int id)) p false → rows_of (now h) t ≡ without_rowid id (rows_of (now h) t)
      row_not it = subst (λ n. joined n ≡ without_rowid id (joined n)) (sym nest_is)
          (rowid_gone id (tree_rows y) _ _ _ _ false up (whole (tree_nest y) p) it.splits it.skips (whole (tree_nest y) p))
