-- SPDX-License-Identifier: Apache-2.0
-- The words that most proofs of this crate have, in one place.
pub use Rattle.std.proofs.Common.{All, Bool, Err, List, None, Ok, OnErr, OnOk, Option, Result, Some, [], ap, append-nil, append_assoc, arith, cond, drop, false}
pub use Rattle.std.proofs.Common.{inl, inr, is_some, length, map, nat_eq, not, option_map, refl, reverse, rules, slice_index_or, subst, suc, sym, true, zero, ℕ}
pub use Rattle.std.proofs.Common.{◌&&◌, ◌*◌, ◌++◌, ◌+◌, ◌-◌, ◌<◌, ◌^◌, ◌||◌, ◌∙◌, ◌∷◌, ◌≡◌, ◌≤◌, ◌⊎◌}
pub use Rattle.std.proofs.lemmas.Bool.{cases_order}
pub use Rattle.std.proofs.lemmas.Bool.Decides.{nat_tests}
pub use Rattle.std.proofs.lemmas.List.Elements.{All-cons, All-drop, All-head, All-map, All-nil, All-push, All-tail}
pub use Rattle.std.specs.Cmp.{IsTotalOrder, nat_cmp_is}
pub use Rattle.std.specs.Cmp.Lexicographic.{bytes_decides, nat_list_cmp_total, slice_cmp}
pub use Rattle.std.specs.FinMap.{FinMap, IsAntisymmetric, entries, entries-from_sorted, entries_sorted, from_sorted, get, get-entries, get-from_sorted, insert}
pub use Rattle.std.specs.FinMap.{keys, retain_keys, same_map}
pub use Rattle.std.specs.List.{filter, find, list_any, starts_with}
pub use Rattle.std.specs.Option.{option_to_list}
pub use Rattle.std.specs.Ordering.{is_eq, is_le, is_lt, nat_cmp, ordering_then}
pub use Rattle.std.specs.Prelude.{IsSome, T, codes, if◌then◌else◌, option_and_then, slice_get, unsigned_abs, ℤ}
pub use Rattle.std.specs.declared.cmp.Ordering.{Ordering}
pub use Rattle.std.specs.declared.cmp.Ordering.TheVariants.{Equal, Greater, Less}
pub use Rattle.mkey.proofs.Children.{at_front, below_is, children_by, empty_first, find_child, find_last_child, no_list, not_empty, split_last, whole}
pub use Rattle.mkey.proofs.NodeFronts.{IsSplit, both_true, child_within, child_without, joined_node, key_behind, split_node, starts_node, within_parts}
pub use Rattle.mkey.proofs.SubsKeys.{child_is, split_within}
pub use Rattle.mkey.specs.Key.{IsKeyOf, none_empty}
pub use Rattle.mkey.specs.Under.{child_under, passes}
pub use Rattle.mkey.specs.Way.{way}
pub use Rattle.mspec.proofs.KeyOrders.{raised_below, raised_order, subscript_order, value_in_range}
pub use Rattle.mspec.proofs.NodeOrders.{canonical_of_value, node_cmp_exact, node_cmp_total, text_cmp_total}
pub use Rattle.mspec.specs.Globals.{Globals, is_beside, is_between, is_line_of, is_node_within, lines_of, next_key, order_at, routines_of, status}
pub use Rattle.mspec.specs.Globals.{without_subtree}
pub use Rattle.mspec.specs.KeyBytes.{AreSubscripts, IsAscii, IsStored, children_start, key_bytes, local_bytes, number_bytes, raised, subscript_by}
pub use Rattle.mspec.specs.KeyBytes.{subscript_bytes, subscripts_bytes, subtree_end, text_bytes}
pub use Rattle.mspec.specs.KeyLaws.{NoneEmpty}
pub use Rattle.mspec.specs.Node.{Node, Text}
pub use Rattle.mspec.specs.NodeOrder.{Empty, Numeric, Other, Place, canonical_value, node_cmp, place, place_by, place_cmp, subscripts_cmp, text_cmp}
pub use Rattle.mspec.specs.Number.{significant_digits}
pub use Rattle.mspec.specs.Trees.{Backward, Direction, Forward, child_of, children_in, front, is_before, is_below, is_empty, is_within, last, text_eq}
pub use Rattle.mnodes.proofs.Doubting.{Doubts-same, Doubts-then, undoubted}
pub use Rattle.mnodes.specs.Doubt.{Doubts}
pub use Rattle.mnodes.specs.Over.{DoubtsOver}
pub use Rattle.mnodes.specs.Held.{AreHeld, IsHeld}
pub use Rattle.mglobal.specs.Copies.{AreCopiesIn, IsApart}
pub use Rattle.mglobal.specs.Lines.{is_line, is_line_behind, line_at, line_in, lines_behind, routine_at, texts_behind}
pub use Rattle.mglobal.specs.Next.{BoundsOnward, is_onward, nearest_key}
