-- SPDX-License-Identifier: Apache-2.0
-- The words that most proofs of this crate have, in one place.
pub use Rattle.std.proofs.Common.{All, Bool, Equal, Err, Greater, IfOk, IfSome, IsSome, Less, List, None, Ok, OnOk, Option, Ordering, Result, Some, [], ap}
pub use Rattle.std.proofs.Common.{append-nil, append_assoc, arith, cond, drop, false, get_or, get_or-set_other, get_or-take, inl, inr, is_some, length}
pub use Rattle.std.proofs.Common.{length-append, length-set, length-take-le, map, mul-le-mul_left, mul-le-mul_right, nat_eq, nat_lt, not, refl, slice_get}
pub use Rattle.std.proofs.Common.{slice_index_or, slice_set, subst, suc, sym, take, take-append-drop, take_all, true, true≢false, unwrap_or, zero, ℕ, ◌&&◌, ◌*◌}
pub use Rattle.std.proofs.Common.{◌++◌, ◌+◌, ◌-◌, ◌<◌, ◌^◌, ◌||◌, ◌∙◌, ◌∷◌, ◌≡◌, ◌≤◌, ◌⊎◌}
pub use Rattle.std.proofs.Math.Seq.{take-append-add, take-append_seam}
pub use Rattle.std.proofs.lemmas.Bool.{and_from, and_parts, and_right, cases_Bool, cases_eq, cases_lt, false_from_ne_true, or_cases, or_left, or_parts}
pub use Rattle.std.proofs.lemmas.Bool.{or_right}
pub use Rattle.std.proofs.lemmas.Bool.Decides.{nat_tests}
pub use Rattle.std.proofs.lemmas.List.{nil_from_length}
pub use Rattle.std.proofs.lemmas.List.Folds.{Any-from_list_any, list_any_at, list_any_none}
pub use Rattle.std.proofs.lemmas.Map.Entries.{lookup_from_place, place_from_lookup}
pub use Rattle.std.proofs.lemmas.Option.{get_or_from_slice_get, none-some, slice_get-get_or, slice_get_within}
pub use Rattle.std.specs.Cmp.{Equal-is, both_ways, eq_by_cmp_equiv}
pub use Rattle.std.specs.FinMap.{contains_key-keys, empty, get-empty, get-from_entries, get-insert, get-remove, get-retain_keys, insert, keys, remove}
pub use Rattle.std.specs.FinMap.{retain_keys, same_map}
pub use Rattle.std.specs.FinMap.Entries.{find, is_some-find}
pub use Rattle.std.specs.List.{AllByRecursion, list_any, sum_by, swap_remove}
unfoldable pub use Rattle.std.specs.List.{IsDistinct}
pub use Rattle.std.specs.Map.{keys_of, lookup, lookup_key}
pub use Rattle.std.specs.Ordering.{eq_by_cmp, is_eq, nat_cmp, ordering_then}
pub use Rattle.std.proofs.lemmas.Grind.{common_steps}
pub use mathlib.Core.Bool.{beq}
pub use Rattle.mspec.proofs.KeyRanges.{within}
pub use Rattle.mspec.proofs.NodesWithin.{of_within, within_of}
pub use Rattle.mspec.proofs.LockOrders.{held_cmp_exact, held_cmp_total, lock_name_cmp_exact, lock_name_cmp_total}
pub use Rattle.mspec.specs.Globals.{is_node_within}
pub use Rattle.mspec.specs.LockConflict.{Held, LockName, Locks, count, counted, given_back, has_conflict, held, held_cmp, is_conflict, is_within, lock_name_cmp}
pub use Rattle.mspec.specs.LockConflict.{max_count, one_more, released, taken}
pub use Rattle.mspec.specs.Node.{Node, Text}
pub use Rattle.indexmap.proofs.CallerLemmas.{insert_entry-new, keys-with_value_at, updates-with_value_at}
pub use Rattle.indexmap.specs.IndexMap.{IndexMap, IsUnique, Updates, get, with_value_at}
pub use Rattle.mlock.specs.Above.{IsAbove, is_other, name_above}
pub use Rattle.mlock.specs.Holdings.{Entry, AreCounts, IsFree, lock_of, locks_in, locks_of, own_count}
pub use Rattle.mlock.specs.Tallies.{HasEntry, HasRoom, IsRecounted, Kept, below_sum, is_none, is_only, is_under, name_eq, no_names, tally_at, tally_of}
pub use Rattle.mlock.specs.Tallies.{too_large, with_one}
pub use Rattle.mlock.specs.declared.locks.Holding.{Holding}
pub use Rattle.mlock.specs.declared.tally.Tally.{Tally}
