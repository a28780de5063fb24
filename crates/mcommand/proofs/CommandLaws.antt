-- SPDX-License-Identifier: Apache-2.0
-- The words and the lemmas that the answers of this crate's functions have, in one place.
pub use Rattle.mcommand.proofs.CommandWords.{Answers, Bool, Err, Global, List, MatchResult, MayTake, None, Num, Ok, Option, Prepared, Result, Some, Take, Text}
pub use Rattle.mcommand.proofs.CommandWords.{Vec, [], added, added_within, ap, append_assoc, arith, ask, begun_within, condition_tree, course_view, endless}
pub use Rattle.mcommand.proofs.CommandWords.{entry_tree, expr_tree, false, give, into_iter_items, is_past, kill_at, kind_tree, last_turn, length, lock_name_act}
pub use Rattle.mcommand.proofs.CommandWords.{map, none_left, option_map, pending_view, place_view, prepared_view, put_at, reference_tree, refl, residual_is}
pub use Rattle.mcommand.proofs.CommandWords.{set_piece_of, set_range_of, set_test, standing_of, subst, sym, target_tree, true, units, write, ℤ, ◌++◌, ◌+ℤ◌}
pub use Rattle.mcommand.proofs.CommandWords.{◌>>=◌, ◌>>◌, ◌∙◌, ◌∷◌, ◌≡◌, ◌≤◌, move_cursor}
pub use Rattle.mcommand.proofs.Calls.{does_evaluated, does_failed, does_false, does_gives, does_is, does_seen, does_stopped, does_then, does_append, does_true}
pub use Rattle.mcommand.proofs.Calls.{does_wanting, does_write, does_yielded, item_stopped, item_then, taken_front, truth_stopped, truth_then}
pub use Rattle.mcommand.proofs.Handed.{deep_refused, free_goes_on, name_none, name_read}
pub use Rattle.mcommand.proofs.Spoken.{does_spoken, target_in, target_is}
pub use Rattle.mcommand.proofs.Locking.{does_give_back, does_refuse, does_take, name_is, next_given, one_is, one_more_taken}
pub use Rattle.mcommand.proofs.Targets.{all_given, all_prepared_failed, all_value_failed, node_assigned, node_subscript_failed, node_value_failed, one_assigned}
pub use Rattle.mcommand.proofs.Targets.{one_prepared_failed, one_value_failed, made_assigned, made_put, made_read_failed, made_refused, made_wanting, named_is}
pub use Rattle.mcommand.proofs.Targets.{plain_assigned, plain_failed, with_piece, with_range}
pub use Rattle.mcommand.specs.LockNames.{locking_names}
