-- SPDX-License-Identifier: Apache-2.0
-- The words that most proofs of this crate have, in one place.
pub use Rattle.std.proofs.Common.{All, Bool, Equal, Err, Greater, IfErr, IfOk, Less, List, None, Ok, Option, Ordering, Result, Some, T, [], ap, append-nil}
pub use Rattle.std.proofs.Common.{arith, cond, drop, false, find, if◌then◌else◌, inl, inr, is_ok, length, map, not, option_copied, refl, reverse, rules}
pub use Rattle.std.proofs.Common.{slice_get, slice_index_or, slice_set, subst, suc, sym, take, true, zero, ℕ, ◌&&◌, ◌++◌, ◌+◌, ◌-◌, ◌<◌, ◌∙◌, ◌∷◌, ◌≡◌, ◌≤◌}
pub use Rattle.std.proofs.lemmas.Bool.{and_from, and_parts, cases_lt, false_from_ne_true}
pub use Rattle.std.proofs.lemmas.Cmp.{tied_itself}
pub use Rattle.std.proofs.lemmas.List.{length-drop, reverse-append, take_all}
pub use Rattle.std.proofs.lemmas.List.Elements.{All-append, All-cons, All-drop, All-head, All-map, All-nil, All-set, All-tail, All-take}
pub use Rattle.std.proofs.lemmas.List.Folds.{find-append}
pub use Rattle.std.proofs.lemmas.List.Sorted.{IsPartitionPoint-from_clause, searchable_from_sorted}
pub use Rattle.std.specs.Cmp.{IsTotalOrder}
pub use Rattle.std.specs.Cmp.Lexicographic.{bytes_decides, nat_list_cmp_total, slice_cmp, slice_partial_cmp}
pub use Rattle.std.specs.FinMap.{FinMap, IsAntisymmetric, empty, entries, entries-from_sorted, entries-insert, entries_sorted, from_entries, from_sorted, get}
pub use Rattle.std.specs.FinMap.{get-entries, get-from_entries, get-from_sorted, get-retain_keys, insert, len-empty, len-entries, retain_keys, same_entries_map}
pub use Rattle.std.specs.FinMap.{same_map}
pub use Rattle.std.specs.FinMap.Entries.{below_all, by_order, find-where_key, is_sorted, is_sorted-put, is_sorted-where_key, put, where_key}
pub use Rattle.std.specs.Option.{option_or}
pub use Rattle.std.specs.Ordering.{is_le, is_lt, is_some_and, nat_cmp, ordering_reverse, ordering_then, partial_ordering_then}
pub use Rattle.mkey.specs.Key.{BoundsKeysOf, none_empty}
pub use Rattle.mspec.proofs.KeyOrders.{key_order}
pub use Rattle.mspec.proofs.NodeOrders.{node_cmp_exact, node_cmp_total, same_node}
pub use Rattle.mspec.specs.Globals.{Globals, is_between, is_node_within, keys_of, next_key, previous_key, without_subtree}
pub use Rattle.mspec.specs.KeyBytes.{IsStored, key_bytes}
pub use Rattle.mspec.specs.KeyLaws.{IsBetween, IsWithin}
pub use Rattle.mspec.specs.Node.{Node, Text}
pub use Rattle.mspec.specs.NodeOrder.{node_cmp}
pub use Rattle.mspec.specs.Number.{significant_digits}
pub use Rattle.mspec.specs.TextFunctions.{max_text}
pub use Rattle.mnodes.specs.Entries.{AreEntries, IsAt, IsGapFor, IsPlaceOf, bytes_of, entries_of, entry_of, held, is_before, key_within}
pub use Rattle.mnodes.specs.Held.{AreHeld, IsHeld}
pub use Rattle.mnodes.specs.declared.plain.Entry.{Entry}
