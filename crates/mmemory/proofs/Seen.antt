-- SPDX-License-Identifier: Apache-2.0
-- A tree of the list, and what the transaction sees of it.
use Rattle.mmemory.proofs.MemoryWords.{◌≡◌, ◌≢◌, ℕ, ℤ, zero, suc, ◌^◌, ◌<◌, true, false, not, is_lt, is_gt, is_eq, List, [], ◌∷◌, filter, length, map, get_or}
use Rattle.mmemory.proofs.MemoryWords.{refl, sym, ap, subst, ◌∙◌, arith, length-map, Row, value_cmp, prefix_cmp, rowid, has_rowid, order_of, sought, IsTable}
use Rattle.mmemory.proofs.MemoryWords.{named, unnumbered, Place, before, after, Splits, Order, Shape, Absent, Table, Index, Heading, no_heading, shape_in}
use Rattle.mmemory.proofs.MemoryWords.{IsShaped, Tree, Held, Memory, joined, Plain, plain, no_plain, heading, tree_nest, tree_rows, headings, rows_of, now}
use Rattle.mmemory.proofs.MemoryWords.{shape_at, nest_at, memory_view, left_from}
use Rattle.sqlite_value.specs.declared.value.Value.TheVariants.{Int}
use Rattle.sqlite_trees.specs.declared.store.Direction.TheVariants.{Forward, Backward}
use Rattle.mmemory.proofs.Shown.{shown_at}
use Rattle.mmemory.proofs.Logs.{shaped_now}
use Rattle.mmemory.proofs.Nests.{whole}
use Rattle.mmemory.proofs.Words.{row_found, row_missing, sought_forward, sought_backward}
use Rattle.mmemory.proofs.Views.{present_within, shape_at as shape_named}

module _ (h : Held) (t : ℕ) (y : Tree) (low : t < length h.trees.items) (is : y ≡ get_or h.trees.items t y) where
  pub nest_seen : nest_at h t ≡ tree_nest y
  nest_seen = ap (λ (p : Plain). p.chunks) (shown_at plain h.trees.items t no_plain y low is)

  pub shape_seen : shape_at h t ≡ y.shape
  shape_seen = ap (λ (p : Plain). p.shape) (shown_at plain h.trees.items t no_plain y low is)

  pub kind_seen : shape_in (headings (now h)) t ≡ y.shape
  kind_seen = ap (λ (x : Heading). x.0) (shown_at heading (now h).trees t no_heading (plain y) (omega (arith, low, length-map h.trees.items plain)) (sym (shown_at plain h.trees.items t (plain y) y low is)))

  pub rows_shaped : IsShaped y.shape (tree_rows y)
  rows_shaped = subst (λ k. IsShaped k (tree_rows y)) shape_seen (subst (λ n. IsShaped (shape_at h t) (joined n)) nest_seen (shaped_now h t))

kind_of : (trees : List Plain) (t : ℕ) → (get_or trees t no_plain).shape ≡ shape_in (map heading trees) t
kind_of [] t = refl
kind_of (x ∷ trees) zero = refl
kind_of (x ∷ trees) (suc t) = kind_of trees t

-- a tree that a call can name
module _ (s : Memory) (t : ℕ) (low : t < 2 ^ 32) where
  pub shape_is : shape_at s.held t ≡ (memory_view s).shape t
  shape_is = kind_of (now s.held).trees t ∙ sym (shape_named s t low)

  pub listed_within : (memory_view s).shape t ≢ Absent → t < length s.held.trees.items
  listed_within there =
      let inside = present_within (headings (now s.held)) t (λ none. there (shape_named s t low ∙ none)) in
      omega (arith, inside, length-map (now s.held).trees heading, length-map s.held.trees.items plain)

  pub listed_as : (kind : Shape) → kind ≢ Absent → (memory_view s).shape t ≡ kind → t < length s.held.trees.items
  listed_as kind there is = listed_within (λ none. there (sym is ∙ none))

  pub table_within : (memory_view s).shape t ≡ Table → t < length s.held.trees.items
  table_within = listed_as Table (λ none. cc)

  pub index_within : (o : Order) → (memory_view s).shape t ≡ Index o → t < length s.held.trees.items
  index_within o = listed_as (Index o) (λ none. cc)

  pub table_shaped : (memory_view s).shape t ≡ Table → (y : Tree) → t < length s.held.trees.items → y ≡ get_or s.held.trees.items t y → IsShaped Table (tree_rows y)
  table_shaped is y within at = subst (λ k. IsShaped k (tree_rows y)) (sym (shape_seen s.held t y within at) ∙ shape_is ∙ is) (rows_shaped s.held t y within at)

  pub rows_named : (y : Tree) → t < length s.held.trees.items → y ≡ get_or s.held.trees.items t y → (memory_view s).trees t ≡ tree_rows y
  rows_named y within at = rw (unnumbered t low, named t low, nest_seen s.held t y within at) refl

-- a row by its rowid, in a table that a call can name
module _ (s : Memory) (t : ℕ) (low : t < 2 ^ 32) (is : (memory_view s).shape t ≡ Table) (y : Tree) (at : y ≡ get_or s.held.trees.items t y) where
  pub rows_up : IsTable (tree_rows y)
  rows_up = (table_shaped s t low is y (table_within s t low is) at).0

  module _ (id : ℤ) (p : Place) (splits : Splits (λ r. is_lt (value_cmp (rowid r) (Int id))) (before (tree_nest y) p) (after (tree_nest y) p)) where
    pub named_found : (found : Row) (rest : List Row) → after (tree_nest y) p ≡ found ∷ rest → is_eq (value_cmp (rowid found) (Int id)) ≡ true → filter (has_rowid id) ((memory_view s).trees t) ≡ found ∷ []
    named_found found rest next hit =
        ap (filter (has_rowid id)) (rows_named s t low y (table_within s t low is) at)
        ∙ row_found id (tree_rows y) (before (tree_nest y) p) (after (tree_nest y) p) rest found rows_up (whole (tree_nest y) p) splits next hit

    pub named_missing : ((found : Row) (more : List Row) → after (tree_nest y) p ≡ found ∷ more → is_eq (value_cmp (rowid found) (Int id)) ≡ false) → filter (has_rowid id) ((memory_view s).trees t) ≡ []
    named_missing other =
        ap (filter (has_rowid id)) (rows_named s t low y (table_within s t low is) at)
        ∙ row_missing id (tree_rows y) (before (tree_nest y) p) (after (tree_nest y) p) rows_up (whole (tree_nest y) p) splits other

-- what a cursor at a place has left
module _ (h : Held) (t : ℕ) (y : Tree) (low : t < length h.trees.items) (is : y ≡ get_or h.trees.items t y) (o : Order) (by : o ≡ order_of y.shape) (key : Row) (p : Place) where
  pub forward_seen : Splits (λ e. is_lt (prefix_cmp o e key)) (before (tree_nest y) p) (after (tree_nest y) p)
      → left_from Forward (nest_at h t) p ≡ sought (order_of (shape_in (headings (now h)) t)) Forward key (rows_of (now h) t)
  forward_seen splits = rw (nest_seen h t y low is, kind_seen h t y low is) (sought_forward (order_of y.shape) key (tree_nest y) p (rw by at splits))

  pub backward_seen : Splits (λ e. not (is_gt (prefix_cmp o e key))) (before (tree_nest y) p) (after (tree_nest y) p)
      → left_from Backward (nest_at h t) p ≡ sought (order_of (shape_in (headings (now h)) t)) Backward key (rows_of (now h) t)
  backward_seen splits = rw (nest_seen h t y low is, kind_seen h t y low is) (sought_backward (order_of y.shape) key (tree_nest y) p (rw by at splits))
