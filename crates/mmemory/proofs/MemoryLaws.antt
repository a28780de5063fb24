-- SPDX-License-Identifier: Apache-2.0
-- The words and the lemmas that the answers of this crate's functions have, in one place.
pub use Rattle.mmemory.proofs.MemoryWords.{Absent, All, DropChunk, Fits, Halves, Index, IsInOrder, IsIndex-insert_entry, IsShaped-filter, IsShaped-put_row}
pub use Rattle.mmemory.proofs.MemoryWords.{KeepsShown, List, Makes, MayRelist, Memory, None, OnOk, Plain, Put, PutChunk, PutRow, Row, SetRow, Shorten, Some}
pub use Rattle.mmemory.proofs.MemoryWords.{State, Tree, Version, Writes, [], after, after_row, ap, append_assoc, arith, bare_rows, before, catalog_tree}
pub use Rattle.mmemory.proofs.MemoryWords.{chunk_rows}
pub use Rattle.mmemory.proofs.MemoryWords.{current, drop, entry_cmp, get_or, has_rowid, heading, headings, inl, insert, insert_entry, is_eq, joined, left_of}
pub use Rattle.mmemory.proofs.MemoryWords.{length, length-append, length-map, listed_unless_absent, map, map-append, map-set, marks_of, memory_view, min}
pub use Rattle.mmemory.proofs.MemoryWords.{moment, named, nest, newest, no_doubt, no_heading, no_plain, not, now, objects_from, objects_step, order_of, owned}
pub use Rattle.mmemory.proofs.MemoryWords.{passes, plain, plain_rows, put_back, put_in, put_row, refl, remove_entry, rows_after, rows_at, rows_of, rules, set}
pub use Rattle.mmemory.proofs.MemoryWords.{set-get_or, shape_at, shown, slice_get, snapshot, sorted_shape, sought, state_of, subst, suc, sym, take, take-map}
pub use Rattle.mmemory.proofs.MemoryWords.{taken, to_z-of_z, tree_nest, tree_rows, true, undone, undone_one, undone_step, unnumbered, version_twice, view_of}
pub use Rattle.mmemory.proofs.MemoryWords.{with_chunks, with_tree, without_rowid, zero, ℕ, ◌++◌, ◌+◌, ◌-◌, ◌<◌, ◌∙◌, ◌∷◌, ◌≡◌, ◌≢◌, ◌≤◌}
pub use Rattle.mmemory.proofs.Finds.{fails_later, found_within, none_later, tree_found}
pub use Rattle.mmemory.proofs.Logs.{after_error, both_seen, keeps_untouched, made_at, moment_less, nest_here, ok_weaker, order_kept, order_less, order_same}
pub use Rattle.mmemory.proofs.Logs.{order_untouched, pushed, shaped_now, untouched, within_more, within_same, wrote, wrote_same}
pub use Rattle.mmemory.proofs.Made.{changed, halves_fit, halves_made, insert_min, join_made, made_add, made_cut, made_halves, made_none, made_over, made_put}
pub use Rattle.mmemory.proofs.Made.{made_set, nest_inserted, nest_removed, rows_were, short_at, some_at}
pub use Rattle.mmemory.proofs.Moved.{fits_moved, moved_at, wrote_moved}
pub use Rattle.mmemory.proofs.Others.{empty_fits, kept_both, kept_by, label_order, label_undone, order_by, order_padded, order_put, padded_shown, pads_more, put_order}
pub use Rattle.mmemory.proofs.Others.{put_undone, puts_in, relabels_in, shortened, shown_kept}
pub use Rattle.mmemory.proofs.Relisted.{each_at, fails_to_relist, more_relisted, of_err, of_ok, still_there, went_back}
pub use Rattle.mmemory.proofs.Seen.{backward_seen, forward_seen, index_within, named_found, named_missing, rows_shaped, rows_up, shape_is, table_within}
pub use Rattle.mmemory.proofs.Shown.{drop_past, first_of, shown_at}
pub use Rattle.mmemory.proofs.Some.{chunks_some}
pub use Rattle.mmemory.proofs.Steps.{chunk_end, nothing_after, some_weaker, within_chunks}
pub use Rattle.mmemory.proofs.Views.{beside, created, cursors_set, destroyed, fails, fails_kept, map_same, newest_mark, seen_same, sets_frame, written}
pub use Rattle.mmemory.proofs.Words.{falls_below_entry, falls_below_key, falls_below_rowid, falls_up_to_key}
pub use Rattle.mmemory.proofs.Wrote.{entry_cut, entry_new, entry_not, entry_stays, put_new, put_over, row_cut, row_not, shaped_rows, wrote_none}
pub use Rattle.mmemory.specs.declared.undo.Undo.TheVariants.{Step}
pub use Rattle.sqlite_value.specs.declared.value.Value.TheVariants.{Int}
pub use Rattle.std.proofs.Common.{slice_index}
