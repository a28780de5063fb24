-- SPDX-License-Identifier: Apache-2.0
-- The words that most proofs of this crate have, in one place.
pub use Rattle.std.proofs.Common.{All, Bool, Bor, Equal, Err, Greater, IfErr, IsOk, Less, List, None, Ok, OnErr, OnOk, Option, Ordering, Result, Some, []}
pub use Rattle.std.proofs.Common.{add-one, ap, append_assoc, arith, cond, drop, eq-eqb, eq-or-lt_of_le, eqb, false, filter, get_or, inl, inr, is_eq, is_err}
pub use Rattle.std.proofs.Common.{is_gt, is_lt, is_ok, leb, length, map, max, min, ne_eqb, not, option_map, pos, refl, replicate, reverse, rules, set}
pub use Rattle.std.proofs.Common.{slice_get, subst, suc, sym, take, to_z-of_z, true, true≢false, vec_capacity, vec_len, zero, ℕ, ℤ, ◌++◌, ◌+◌, ◌-◌, ◌/◌, ◌<◌}
pub use Rattle.std.proofs.Common.{◌^◌, ◌∙◌, ◌∷◌, ◌≡◌, ◌≢◌, ◌≤◌, ◌⊎◌}
pub use Rattle.std.proofs.Math.Logic.{∥∥₁_elim, ∥∥₁_map}
pub use Rattle.std.proofs.Math.Seq.{drop-append-add, drop-nil, map-set_same, take-append-add, take-append_seam, take-nil}
pub use Rattle.std.proofs.lemmas.Bool.{cases_eq, le-leb, leb-false, leb-true, lt-ltb}
pub use Rattle.std.proofs.lemmas.Grind.{common_steps, flat_map-append}
pub use Rattle.std.proofs.lemmas.List.{append-nil, drop-append-le, drop-map, drop_min, get_or-set_same, length-append, length-drop, length-map}
pub use Rattle.std.proofs.lemmas.List.{length-replicate, map-append, map-set, replicate_more, set-get_or, set-set, take-append-drop, take-append-le, take-map}
pub use Rattle.std.proofs.lemmas.List.{take_min, take_more}
pub use Rattle.std.proofs.lemmas.List.Edits.{length-insert, length-remove}
pub use Rattle.std.proofs.lemmas.Option.{slice_get-get_or}
pub use Rattle.std.specs.List.{AllByRecursion, flat_map, insert, remove}
pub use Rattle.std.specs.Prelude.{IfSome, if◌then◌else◌}
pub use Rattle.sqlite_trees.proofs.Doubt.{no_doubt}
pub use Rattle.sqlite_trees.proofs.ListLemmas.{all-append, all_weaker, ascending_weaker, filter_all, filter_none}
pub use Rattle.sqlite_trees.proofs.StoreLemmas.{cursor_set, cursor_within, get_or-set_cases, listed_unless_absent, named, objects_step, present_reals}
pub use Rattle.sqlite_trees.proofs.StoreLemmas.{relists_more, under_version, unnumbered, version_twice, versioned_edit, versioned_object}
pub use Rattle.sqlite_trees.proofs.TreeLemmas.{AtMost, IsIndex-insert_entry, IsShaped-filter, IsShaped-put_row, IsSortedTree, not_true, prefix_cmp_follows}
pub use Rattle.sqlite_trees.proofs.TreeLemmas.{sorted_shape}
pub use Rattle.sqlite_trees.specs.Listing.{Heading, no_heading, objects_from, objects_from-set, objects_from-unset, reals_in, reals_unless_absent, shape_in}
pub use Rattle.sqlite_trees.specs.Log.{padded}
pub use Rattle.sqlite_trees.specs.Memory.{snapshot_of}
pub use Rattle.sqlite_trees.specs.Objects.{FailsToRelist, MayRelist, Relists, SetsObject, catalog_tree, description, object_row, set_at, version_tree}
pub use Rattle.sqlite_trees.specs.Objects.{with_version}
pub use Rattle.sqlite_trees.specs.Tree.{IsAscending, IsIndex, IsIndexShape, IsTable, Trees, from_key, has_rowid, insert_entry, order_of, put_row, remove_entry}
pub use Rattle.sqlite_trees.specs.Tree.{rowid, sought, up_to_key, with_tree, without_rowid}
pub use Rattle.sqlite_trees.specs.View.{Commits, IsFailure, IsShaped, KeepsSchema, OnlyCommits, OnlyWrites, SetsTree, Snapshot, View, newest, snapshot}
pub use Rattle.sqlite_trees.specs.declared.error.StoreError.{StoreError}
pub use Rattle.sqlite_trees.specs.declared.schema.Object.{Object}
pub use Rattle.sqlite_trees.specs.declared.store.Shape.{Shape}
pub use Rattle.sqlite_trees.specs.declared.store.Shape.TheVariants.{Absent, FrozenIndex, FrozenTable, Index, Pageless, Table}
pub use Rattle.sqlite_value.specs.Keys.{entry_cmp, prefix_cmp}
pub use Rattle.sqlite_value.specs.Order.{Row, value_cmp}
pub use Rattle.sqlite_value.specs.Value.{owned}
pub use Rattle.sqlite_value.specs.declared.keys.Order.{Order}
pub use Rattle.mmemory.specs.Changes.{Describes, Fits, HalvedAt, Halves, IsMoved, Makes, is_moved, rows_after}
pub use Rattle.mmemory.specs.Held.{Keeps, KeepsPast, KeepsShown, Pads, Puts, Relabels, Writes, moment, nest_at, now, shape_at}
pub use Rattle.mmemory.specs.Lists.{joined, joined_at, over, put_in, taken}
pub use Rattle.mmemory.specs.Memory.{all_kept, current, left_from, left_of, marks_of, memory_view, view_of}
pub use Rattle.mmemory.specs.Nest.{after, after_row, back, before, front, rows_at}
pub use Rattle.mmemory.specs.Plain.{bare_rows, Plain, chunk_rows, heading, nest, no_plain, plain, plain_rows, put_back, tree_nest, tree_rows, undone_step}
pub use Rattle.mmemory.specs.Plain.{with_chunks}
pub use Rattle.mmemory.specs.Probe.{Falls, IsEdge, Skips, Splits, passes}
pub use Rattle.mmemory.specs.States.{AreInOrder, IsInOrder, Labels, State, WithTree, headings, rows_of, shown, state_of, undone, undone_one}
pub use Rattle.mmemory.specs.declared.chunk.Bare.{Bare}
pub use Rattle.mmemory.specs.declared.chunk.Chunk.{Chunk}
pub use Rattle.mmemory.specs.declared.held.Held.{Held}
pub use Rattle.mmemory.specs.declared.memory.Memory.{Memory}
pub use Rattle.mmemory.specs.declared.place.Place.{Place}
pub use Rattle.mmemory.specs.declared.step.Step.TheVariants.{DropChunk, DropRow, Join, PutChunk, PutRow, SetRow}
pub use Rattle.mmemory.specs.declared.tree.Tree.{Tree}
pub use Rattle.mmemory.specs.declared.undo.Undo.{Undo}
pub use Rattle.mmemory.specs.declared.undo.Undo.TheVariants.{Put, Shorten, Version}
