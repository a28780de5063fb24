-- SPDX-License-Identifier: Apache-2.0
-- The words and the lemmas that the answers of this crate's functions have, in one place.
pub use Rattle.meval.proofs.EvalWords.{Code, Evaluated, IsAccountName, LockName, M15, M6, Node, None, Ok, Option, ReferenceTree, Some, Text, Yields, []}
pub use Rattle.meval.proofs.EvalWords.{and_from, ap, append-nil, apply, ap₂, are_subscripts, arith, as_number, at_hand_tree, at_local, at_node, checked}
pub use Rattle.meval.proofs.EvalWords.{data_act, data_at, data_number, decides_account_name, decides_order_subscripts, decides_subscripts, direction_of}
pub use Rattle.meval.proofs.EvalWords.{evaluated, expr_tree, exprs_of, fault_of, get_act, get_from, give, give_some, is_above, is_value, length, local, map}
pub use Rattle.meval.proofs.EvalWords.{name_behind, name_view, attached, named_lock, nat_tests, next_subscript, nil_from_length, no_exprs, node_named}
pub use Rattle.meval.proofs.EvalWords.{node_place, of_global, of_local, of_naked, operand_tree, order_behind, order_from, ordering, own_global, pending_view}
pub use Rattle.meval.proofs.EvalWords.{place_view, pos, put_at, read_act, read_at, read_or, reading, reference_tree, refl, residual_is, resolve, set_naked}
pub use Rattle.meval.proofs.EvalWords.{slice_get, standing_of, status_at}
pub use Rattle.meval.proofs.EvalWords.{status_view, subst, sym, tail_tree, units, unless, unwrap_or, use_of, values, walk_view, whole_at}
pub use Rattle.meval.proofs.EvalWords.{whole_text, yields_gives, ◌++◌, ◌>>=◌, ◌>>◌, ◌∙◌, ◌∷◌, ◌≡◌}
unfoldable pub use Rattle.meval.proofs.EvalWords.{value_of}
pub use Rattle.meval.proofs.Asking.{as_local_place, as_node_place, beside_found, let_in, no_account, own_let_in, writing_reads}
pub use Rattle.meval.proofs.Calls.{asks_locals, evaluates_failed, evaluates_fails, evaluates_gives, evaluates_refused, evaluates_regrouped, evaluates_seen}
pub use Rattle.meval.proofs.Calls.{evaluates_stopped, evaluates_then, evaluates_wanting, evaluates_whole, evaluates_yielded, keeps_itself, keeps_on}
pub use Rattle.meval.proofs.Calls.{never_refused, read_is}
pub use Rattle.meval.proofs.Chains.{alone, bracket_refused, in_brackets, leads_into, leads_itself, leads_on, number_read, of_primary, operand_refused}
pub use Rattle.meval.proofs.Chains.{operator_refused, step_leads}
pub use Rattle.meval.proofs.Indirections.{evaluates_behind, evaluates_deep, evaluates_entry, evaluates_unnamed, is_free, not_free}
pub use Rattle.meval.proofs.LocalVariables.{function_failed, got, let_through, named_as, named_stopped, node_evaluated, node_failed, number_refused}
pub use Rattle.meval.proofs.LocalVariables.{number_told, ordered_next, ordered_stopped, variable_primary, variable_told, walk_refused, walk_through}
pub use Rattle.meval.proofs.Locks.{global_name, local_name, lock_name_of, lock_refused, lock_told, locks_global, locks_local, same_lock}
pub use Rattle.meval.proofs.NodeNames.{evaluates_owned, named_local}
pub use Rattle.meval.proofs.PowerRuns.{not_applied, not_charged, often_enough, once_more}
pub use Rattle.meval.proofs.References.{gives_own, no_walk, node_of, not_empty, own_failed, own_told, owned, walks}
pub use Rattle.meval.proofs.TreeViews.{apply_is, bracket_is, call_is, expr_is, extended_is, extrinsic_is, global_is, indirect_is, local_is, matches_indirect_is}
pub use Rattle.meval.proofs.TreeViews.{matches_is, matches_not_indirect_is, matches_not_is, naked_is, node_is, number_is, operand_is, raise_is, refer_is}
pub use Rattle.meval.proofs.TreeViews.{reference_is, referring_is, select_is, special_is, text_is, variable_is}
pub use Rattle.meval.proofs.Trees.{charge_failed, from_end, from_tail, is_chosen, next_choice, next_value, none_chosen, not_chosen, uncalled, value_failed}
pub use Rattle.meval.proofs.Trees.{values_end}
pub use Rattle.mkey.specs.Way.{way}
pub use Rattle.moperator.proofs.Numbers.{computed_outcome}
pub use Rattle.std.proofs.Common.{List}
