-- SPDX-License-Identifier: Apache-2.0
-- The words and the lemmas that the answers of this crate's functions have, in one place.
pub use Rattle.mlocal.proofs.LocalWords.{All, At, Below, All-keys-insert_entry, All-map-remove_entry, AreSomeSubs, Bool, List, None, Scope, Some, Text, [], ap}
pub use Rattle.mlocal.proofs.LocalWords.{arith, assigned, behind_below, bind, binding_of, bindings_of, bound, beyond, child_of, common, cond, emptied, false}
pub use Rattle.mlocal.proofs.LocalWords.{flat_map, formals, found_is_had, from_entries, front, get-empty, get_or, has_child, has_descendants, has, has_value}
pub use Rattle.mlocal.proofs.LocalWords.{hide, hide_others, insert, insert-map_of, is_among, is_bare, is_before, is_behind, is_below, is_between, is_empty}
pub use Rattle.mlocal.proofs.LocalWords.{is_eq, is_one_of, is_some, keys, keys_of, kill_at, kill_in, killed, killed_except, known_below, last, leads_to, length}
pub use Rattle.mlocal.proofs.LocalWords.{linked, list_any, list_any_more, map, map_of, nat_eq, nat_list_cmp_total, nat_tests, newed, newed_except, not}
pub use Rattle.mlocal.proofs.LocalWords.{bottom_of, empty, index_in, spared, trees_of, AreFree, IsFree, IsRaised, add-one, drop, drop-cons, drop_all, lookup, set}
pub use Rattle.mlocal.proofs.LocalWords.{option_and_then, option_map, order_of, pointwise, refl, retain_keys, reverse, rules, set_in, significant_digits}
pub use Rattle.mlocal.proofs.LocalWords.{slice_get_within, stays, subscripts_cmp, subscripts_cmp_exact, subscripts_cmp_total, subst, sym, take, tree_in}
pub use Rattle.mlocal.proofs.LocalWords.{text_eq, tree_of, true, unwrap_or, way, ways, with_own, with_tree, without, ◌&&◌, ◌++◌, ◌+◌, ◌-◌, ◌<◌, ◌||◌, ◌∙◌, ◌∷◌}
pub use Rattle.mlocal.proofs.LocalWords.{◌≡◌, ◌≤◌}
pub use Rattle.mlocal.proofs.Bare.{own_bare}
pub use Rattle.mlocal.proofs.Bound.{last_bound}
pub use Rattle.mlocal.proofs.Bounds.{below_all, below_before, below_behind, empty_first, more_behind}
pub use Rattle.mlocal.proofs.Free.{all_raised, bare_end, bare_home, bare_top, both_below, both_entered, both_killed, both_none, both_put, free_from}
pub use Rattle.mlocal.proofs.Free.{free_to, killed_passes}
pub use Rattle.mlocal.proofs.Free.{named_raised, no_top, of_top}
pub use Rattle.mlocal.proofs.Free.{one_more_raised, one_raised, push_top, set_top, slot_within, top_raised}
pub use Rattle.mlocal.proofs.Killed.{kill-all, kill-done, kill-step, ways_any}
pub use Rattle.mlocal.proofs.Own.{not_child, other_killed, other_set, others_there, own_killed}
pub use Rattle.mlocal.proofs.Removals.{one_more, without_taken}
pub use Rattle.mlocal.proofs.Stacks.{found-at, home-at, home-bottom, leads_by, none_common, one-down, top-at, tree-at, tree-bottom, unlinked-down}
pub use Rattle.mlocal.proofs.Stacks.{unlinked-found}
pub use Rattle.mlocal.proofs.Steps.{any_walk, last_walk, onward_walk}
pub use Rattle.mlocal.proofs.Tables.{hinted_key, hinted_value, kept, none_left, none_read, put_at, read, same_name, some_left}
pub use Rattle.mlocal.proofs.Views.{IfOk-map, OnErr-always, OnErr-map, OnOk-map, names_exact, put_seen, retain-hash_map_of, retain_same, shown, tree_seen}
pub use Rattle.mlocal.proofs.Walks.{all_reversed, below_is, first_is, found_all, last_is, no_list, none_below, none_next, none_there, not_empty, order_backward}
pub use Rattle.mlocal.proofs.Walks.{some_map, split_last, whole}
