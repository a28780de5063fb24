-- SPDX-License-Identifier: Apache-2.0
-- What the store shows.
use Rattle.std.specs.Prelude.{◌≡◌, ℕ, zero, suc, true, false, if◌then◌else◌, ◌==◌, List, [], ◌∷◌, map, length, drop, reverse, slice_index_or, Option, Some}
use Rattle.std.specs.Prelude.{None, option_map, refl}
use Rattle.std.proofs.Common.{subst}
use Rattle.std.proofs.Math.Logic.{∥∥₁_elim}
use Rattle.sqlite_value.specs.Order.{Row}
use Rattle.sqlite_trees.specs.declared.store.Shape.TheVariants.{Table}
use Rattle.sqlite_trees.specs.declared.store.Direction.{Direction}
use Rattle.sqlite_trees.specs.declared.store.Direction.TheVariants.{Forward, Backward}
use Rattle.sqlite_trees.specs.View.{Snapshot, View, IsShaped, IsOrdered}
use Rattle.sqlite_trees.specs.Objects.{catalog_tree, version_tree, version_rows, IsListed}
use Rattle.sqlite_trees.specs.Listing.{shape_in, objects_from, objects_are_ordered, objects_are_listed, listed_once}
use Rattle.sqlite_trees.specs.Props.{IsShaped-prop}
use Rattle.mmemory.specs.declared.cursor.Cursor.{Cursor}
use Rattle.mmemory.specs.declared.memory.Memory.{Memory}
use Rattle.mmemory.specs.declared.place.Place.{Place}
use Rattle.mmemory.specs.Nest.{before, after}
use Rattle.mmemory.specs.Plain.{Plain, heading, no_plain}
use Rattle.mmemory.specs.States.{State, headings, tree_in, rows_of, shown, undone}
use Rattle.mmemory.specs.Held.{now, moment}

-- what the transaction sees
abbrev pub current : Memory → State
current s = now s.held

abbrev pub left_from : Direction → List (List Row) → Place → List Row
left_from Forward n p = after n p
left_from Backward n p = reverse (before n p)

-- what a cursor has left to give
abbrev pub left_of : State → Cursor → List Row
left_of s c = left_from c.direction (tree_in s c.tree).chunks c.place

abbrev pub view_of : State → State → List Snapshot → (ℕ → Option (List Row)) → View
view_of now base marks cursors = record {
  trees = (shown now).trees;
  committed = (shown base).trees;
  cursors = cursors;
  shape = (shown now).shape;
  reals = (shown now).reals;
  committed_shape = (shown base).shape;
  committed_reals = (shown base).reals;
  marks = marks;
  is_numbered = true;
  has_sums = false;
  is_open = true;
  is_broken = false;
  is_clean = true;
}

-- what each savepoint saw
abbrev pub marks_of : Memory → List Snapshot
marks_of s = map (λ m. shown (moment s.held m)) s.held.marks.items

abbrev pub memory_view : Memory → View
memory_view s = view_of (current s) (moment s.held 0) (marks_of s) (λ c. option_map (left_of (current s)) (slice_index_or s.cursors.items c None))

abbrev pub SetsCursor : List (Option Cursor) → List (Option Cursor) → ℕ → Cursor → Type 0
SetsCursor old new at cursor = (c : ℕ) → slice_index_or new c None ≡ (if c == at then Some cursor else slice_index_or old c None)

abbrev pub Steps : State → Cursor → Row → Option Cursor → Type 0
Steps s cursor row None = left_of s cursor ≡ []
Steps s cursor row (Some moved) = left_of s cursor ≡ row ∷ left_of s moved

kind_at : (trees : List Plain) (t : ℕ) → (slice_index_or trees t no_plain).shape ≡ shape_in (map heading trees) t
kind_at [] t = refl
kind_at (x ∷ trees) zero = refl
kind_at (x ∷ trees) (suc t) = kind_at trees t

-- with the whole log kept, nothing is undone
pub all_kept : {A : Type 0} (xs : List A) → drop (length xs) xs ≡ []
all_kept [] = refl
all_kept (x ∷ xs) = all_kept xs

trees_are_ordered : (s : Memory) → IsOrdered (shape_in (headings (current s))) (rows_of (current s))
trees_are_ordered s t =
    let h : IsShaped (tree_in (current s) t).shape (rows_of (current s) t) =
    ∥∥₁_elim s.held.ordered (IsShaped-prop (tree_in (current s) t).shape (rows_of (current s) t))
    (λ all. subst (λ log. IsShaped (tree_in (undone log (current s)) t).shape (rows_of (undone log (current s)) t)) (all_kept s.held.log.items) (all (length s.held.log.items) t)) in
    subst (λ k. IsShaped k (rows_of (current s) t)) (kind_at (current s).trees t) h

pub memory_is_ordered : (s : Memory) → IsOrdered (memory_view s).shape (memory_view s).trees
memory_is_ordered s t =
    let hs = headings (current s) in
    let below : IsShaped (if t == catalog_tree then Table else shape_in hs t) (if t == catalog_tree then objects_from 0 hs else rows_of (current s) t) =
    elim (t == catalog_tree) as (λ b. IsShaped (if b then Table else shape_in hs t) (if b then objects_from 0 hs else rows_of (current s) t))
    [ true ↦ objects_are_ordered hs 0 | false ↦ trees_are_ordered s t ] in
    elim (t == version_tree) as (λ b. IsShaped (if b then Table else (if t == catalog_tree then Table else shape_in hs t)) (if b then version_rows s.held.version else (if t == catalog_tree then objects_from 0 hs else rows_of (current s) t)))
    [ true ↦ ((tt, tt), (refl, tt)) | false ↦ below ]

pub memory_is_listed : (s : Memory) → IsListed ((memory_view s).trees catalog_tree) (memory_view s).shape (memory_view s).reals
memory_is_listed s = objects_are_listed (headings (current s))

pub memory_is_unaltered : (s : Memory) → (memory_view s).trees catalog_tree ≡ (memory_view s).committed catalog_tree
    → ((memory_view s).shape ≡ (memory_view s).committed_shape) × ((memory_view s).reals ≡ (memory_view s).committed_reals)
memory_is_unaltered s same =
    listed_once _ _ _ _ _ (subst (λ rows. IsListed rows (memory_view s).shape (memory_view s).reals) same (objects_are_listed (headings (current s)))) (objects_are_listed (headings (moment s.held 0)))
