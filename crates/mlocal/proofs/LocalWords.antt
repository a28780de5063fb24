-- SPDX-License-Identifier: Apache-2.0
-- The words that most proofs of this crate have, in one place.
pub use Rattle.std.proofs.Common.{All, BTreeMap, Bool, Bor, Equal, Err, Greater, HashMap, IfOk, IfSome, Less, List, MatchOption, None, Ok, OnErr, OnOk, Option}
pub use Rattle.std.proofs.Common.{Ordering, Result, Some, T, [], add-one, ap, append-nil, append_assoc, arith, cond, drop, drop-cons, false, filter, get_or}
pub use Rattle.std.proofs.Common.{is_eq, is_le, is_lt, is_none, is_some, length, map, nat_cmp, nat_eq, not, option_and_then, option_copied, option_map}
pub use Rattle.std.proofs.Common.{position, refl, reverse, rules, set, slice_get, subst, suc, sym, take, true, unwrap_or, ℕ, ℤ, ◌&&◌, ◌++◌, ◌+◌, ◌-◌, ◌<◌, ◌||◌}
pub use Rattle.std.proofs.Common.{◌∙◌, ◌∷◌, ◌==◌, ◌≡◌, ◌≤◌}
pub use Rattle.std.proofs.Math.Bool.{and-true, or-false, or-true}
pub use Rattle.std.proofs.lemmas.Bool.{and_right, false_from_ne_true}
pub use Rattle.std.proofs.lemmas.Bool.Decides.{nat_tests}
pub use Rattle.std.proofs.lemmas.Cmp.{eq_by_cmp_equiv, tied_itself}
pub use Rattle.std.proofs.lemmas.List.{drop-set-lt, drop_all, length-set, map-id, reverse-append, set_split, take-append-drop, take-set, take_more_set}
pub use Rattle.std.proofs.lemmas.List.Elements.{All-drop, All-head, All-nil, All-push, All-tail}
pub use Rattle.std.proofs.lemmas.List.Folds.{find-append, list_any-append, list_any_more}
pub use Rattle.std.proofs.lemmas.Map.Entries.{filter_from_retain_pairs, length-keys_of}
pub use Rattle.std.proofs.lemmas.Map.Views.{All-after_first, All-keys-insert_entry, All-map-remove_entry}
pub use Rattle.std.proofs.lemmas.Option.{slice_get-get_or, slice_get-map, slice_get_within}
pub use Rattle.std.specs.BTreeMap.{IsOrdered, keys}
pub use Rattle.std.specs.Cmp.{IsTotalOrder}
pub use Rattle.std.specs.Cmp.Lexicographic.{bytes_decides, nat_list_cmp_total, nat_list_eq_equiv, pointwise, slice_cmp, texts_ties}
pub use Rattle.std.specs.FinMap.{IsAntisymmetric, empty, entries, entries-from_sorted, entries-insert, from_entries, from_sorted, get-empty, get-from_entries}
pub use Rattle.std.specs.FinMap.{get-from_sorted, get-insert, get-remove, get-retain_keys, insert, len-empty, len-entries, nat_cmp-IsAntisymmetric, retain_keys}
pub use Rattle.std.specs.FinMap.{same_map, slice_cmp-IsAntisymmetric}
pub use Rattle.std.specs.FinMap.Entries.{below_all, by_order, find-where_key, is_sorted, put, where_key}
pub use Rattle.std.specs.List.{find, flat_map, list_any}
pub use Rattle.std.specs.Map.{keys_of, lookup, values_of}
pub use Rattle.std.specs.Option.{option_or, option_to_list}
pub use Rattle.std.specs.Ordering.{eq_by_cmp, ordering_reverse, ordering_then}
pub use Rattle.indexmap.specs.IndexMap.{IndexMap, IsUnique, Updates, with_value_at}
pub use Rattle.mkey.specs.Front.{AreSubs, IsSub}
pub use Rattle.mkey.specs.SubsKey.{behind_below, beyond}
pub use Rattle.mkey.specs.Way.{way}
pub use Rattle.mspec.proofs.HashMaps.{hash_found_is_had, insert-hash_map_of, remove-hash_map_of}
pub use Rattle.mspec.proofs.Maps.{found_is_had, insert-map_of}
pub use Rattle.mspec.proofs.NodeOrders.{subscripts_cmp_exact, subscripts_cmp_total, text_cmp_exact, text_cmp_total}
pub use Rattle.mspec.specs.Maps.{hash_map_of, map_of}
pub use Rattle.mspec.specs.Node.{Text}
pub use Rattle.mspec.specs.NodeOrder.{Other, place, place_by, place_cmp, subscripts_cmp, text_cmp}
unfoldable pub use Rattle.mspec.specs.NodeOrder.{canonical_value}
pub use Rattle.mspec.specs.Number.{significant_digits}
unfoldable pub use Rattle.mspec.specs.Number.{digits_before, nearest, round, round_size, rounding_unit}
pub use Rattle.mspec.proofs.Sparing.{known_is}
pub use Rattle.mspec.specs.Scopes.{Scope, Scopes, assigned, at_home, bind, bound, common, emptied, entered, formals, has, hide, hide_others, is_among, is_bare}
pub use Rattle.mspec.specs.Scopes.{is_name, is_other, kill_in, killed, killed_but, killed_except, known_below, leads_to, linked, newed, newed_except, on_top}
pub use Rattle.mspec.specs.Scopes.{outermost, passed, set_in, stays, tree_in, tree_of, ways, with_tree}
pub use Rattle.mspec.specs.Trees.{Tree, child_of, front, has_descendants, has_value, is_before, is_below, is_empty, is_within, last, order_of, text_eq, without}
pub use Rattle.mlocal.specs.Bindings.{binding_of, bindings_of}
pub use Rattle.mlocal.specs.Home.{bottom_of, AreBare, AreFree, IsFree, IsHome, IsRaised, IsUnlinkedHome, killed_up, place_at, slot}
pub use Rattle.mlocal.specs.declared.level.UnlinkedHome.{UnlinkedHome}
pub use Rattle.mlocal.specs.declared.level.UnlinkedHome.TheVariants.{Below, At, ByLink}
pub use Rattle.mlocal.specs.Named.{index_in, spared, trees_of}
pub use Rattle.mlocal.specs.Own.{AreSomeSubs, with_own}
pub use Rattle.mlocal.specs.Table.{NamedTrees, StandsAt, kill_at, tidied_at, tree_at}
pub use Rattle.mlocal.specs.Way.{has_child, is_behind, is_between, is_from, is_one_of, passes}
