-- SPDX-License-Identifier: Apache-2.0
-- The words that most proofs of this crate have, in one place.
pub use Rattle.std.proofs.Common.{All, Any, Bool, Bor, Global, IfNone, IfSome, List, None, Option, Some, String, [], add-one, add-zero, ap, append-nil}
pub use Rattle.std.proofs.Common.{append_assoc, arith, bytes_eq, cond, count_by, drop, false, get_or, if◌then◌else◌, inl, inr, int_eq, is_some, length}
pub use Rattle.std.proofs.Common.{length-append, length-drop, length-take-le, map, nat_cmp, nat_le, nat_lt, negsuc, not, option_and_then, option_map, pos, refl}
pub use Rattle.std.proofs.Common.{replicate, rules, set, slice_get, string_bytes, subst, subst₂, suc, sum_by, sym, take, take-append-drop, take_all, true}
pub use Rattle.std.proofs.Common.{unsigned_abs, unwrap_or, vec_len, zero, zero-add, ℕ, ℤ, ◌&&◌, ◌++◌, ◌+◌, ◌-◌, ◌<◌, ◌==◌, ◌||◌, ◌↔◌, ◌∙◌, ◌∷◌, ◌≡◌, ◌≤◌, ◌⊎◌}
pub use Rattle.std.proofs.lemmas.Bool.{MatchBool-at_false, MatchBool-at_true, and_from, and_left, and_parts, and_right, cases_Bool, cases_eq, cases_lt}
pub use Rattle.std.proofs.lemmas.Bool.{cond-false, cond-true, eq-eqb, eqb-true, false_from_ne_true, false≢true, le-leb, leb-false, leb-true, lt-leb, ltb-false}
pub use Rattle.std.proofs.lemmas.Bool.{ltb-true, ne_eqb, not-true, or_cases, or_left, or_right}
pub use Rattle.std.proofs.lemmas.Bool.Decides.{Decides-int_eq, nat_tests}
pub use Rattle.std.proofs.lemmas.Grind.{common_steps}
pub use Rattle.std.proofs.lemmas.List.{drop_all, drop_more, get_or-drop, get_or-set_other, get_or-set_same, get_or-take, get_or_default, get_or_past}
pub use Rattle.std.proofs.lemmas.List.{length-map, length-replicate, map-append, set-get_or, take_more}
pub use Rattle.std.proofs.lemmas.List.Elements.{All-append, All-cons, All-head, All-nil, All-tail, Contains-append_left, Contains-append_right, filter-append}
pub use Rattle.std.proofs.lemmas.List.Elements.{filter_agree}
pub use Rattle.std.proofs.lemmas.List.Folds.{Any-from_list_any, list_all-append, list_any-append, list_any_at, list_any_none}
pub use Rattle.std.proofs.lemmas.List.Sorted.{All-permutation, IsNonDecreasingBy-drop, IsNonDecreasingBy-from_sort_by_key, IsNonDecreasingBy-take}
pub use Rattle.std.proofs.lemmas.List.Sorted.{IsPartitionPoint-from_clause, IsPartitionedBy-leb, IsPartitionedBy-ltb, IsPermutation-sym, list_any-IsPermutation}
pub use Rattle.std.proofs.lemmas.List.Sums.{AllPass-from_list_all, count_by-le-length, sum_by-set}
pub use Rattle.std.proofs.lemmas.Option.{get_or_from_slice_get, none-some, same_Some, slice_get-get_or, slice_get_past, slice_get_within, unwrap_or-slice_get}
pub use Rattle.std.specs.Cmp.{both_ways, nat_cmp_total}
pub use Rattle.std.specs.Cmp.Lexicographic.{bytes_decides, nat_list_eq_equiv}
pub use Rattle.std.specs.FinMap.{FinMap, from_entries, get, get-from_entries, nat_cmp-IsAntisymmetric, same_map}
pub use Rattle.std.specs.FinMap.Entries.{find}
pub use Rattle.std.specs.List.{filter, flat_map, list_all, list_any, range_with_len}
pub use Rattle.std.specs.List.Sorted.{IsNonDecreasingBy, IsPartitionPoint, IsPermutation}
pub use Rattle.std.specs.Map.{AreApart, IsKeyTest, keys_of, lookup}
unfoldable pub use Rattle.std.specs.Map.{KeepsOthers}
pub use Rattle.mspec.proofs.SubscriptTests.{account_name_is, account_name_test}
pub use Rattle.mspec.specs.Access.{Account, Mode, Read}
pub use Rattle.mspec.specs.Flow.{Reaches, carries, flows, itself, through}
pub use Rattle.mspec.specs.Names.{AllAre, IsName, is_letter, is_name_rest, is_name_start}
pub use Rattle.mspec.specs.Node.{Text}
pub use Rattle.mspec.specs.Trees.{text_eq}
pub use Rattle.toml.proofs.Views.{Entry, table_get}
pub use Rattle.toml.specs.Data.{Data, as_integer}
pub use Rattle.toml.specs.View.{array_view, items_view, members_view, table_view, view}
pub use Rattle.mgrant.specs.Document.{Written, WrittenAccount, WrittenGrant, account_of, are_distinct, are_grants, are_names, are_steps, are_terminals}
pub use Rattle.mgrant.specs.Document.{count_items, each_read, entries_of, grant_of, has_only, has_steps, is_account_name, is_grant, is_name, is_within}
pub use Rattle.mgrant.specs.Document.{max_entries, mode_named, names_of, settings_of, terminals_of, terminals_with, written_account, written_by, written_grant}
pub use Rattle.mgrant.specs.Edges.{IsMore, IsRun, IsStage, Leads, goes, leads, stays}
pub use Rattle.mgrant.specs.Islands.{IsIslandAt, IsIslandOf}
pub use Rattle.mgrant.specs.Placed.{Allowed, IsAllowance, IsInterned, Placed, allows_so, carries_at, lets_at, mode_of, placed, same_permit, ties_at}
pub use Rattle.mgrant.specs.Reading.{AreGranted, Claim, HasTerminals, IsAccountOf, IsNumberWithin, IsPlacing, claimed, claims, claims_at, entries_seen}
pub use Rattle.mgrant.specs.Reading.{entries_view, grant_view, grants_seen, keys_view, numbers}
pub use Rattle.mgrant.specs.View.{AreSettings, IsAmong, account_view, named, names_in, settings_view, terminals_from, with_terminal}
pub use Rattle.mgrant.specs.Words.{Bytes, IsIndex, IsPlaceOf, Places, found_at, text_in, texts_of}
pub use Rattle.mgrant.specs.declared.flow.Edge.{Edge}
pub use Rattle.mgrant.specs.declared.grants.Permit.{Permit}
