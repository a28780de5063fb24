-- SPDX-License-Identifier: Apache-2.0
-- The words that most proofs of this crate have, in one place.
pub use Rattle.std.proofs.Common.{Bool, Err, Global, List, MatchResult, MutBor, None, Ok, Option, Result, Some, Vec, [], ap, append_assoc, arith, cond, drop}
pub use Rattle.std.proofs.Common.{false, get_or, length, map, option_map, refl, subst, sym, true, ℕ, ℤ, ◌++◌, ◌+ℤ◌, ◌+◌, ◌<◌, ◌∙◌, ◌∷◌, ◌≡◌, ◌≤◌}
pub use Rattle.std.specs.Prelude.{if◌then◌else◌, ℤ, ◌&&◌}
pub use Rattle.std.specs.Result.{IsErr, IsErrAnd}
pub use Rattle.std.specs.Vec.Iter.{into_iter_items, into_iter_steps}
pub use Rattle.meval.specs.Acts.{lock_name_act, put_act, truth}
pub use Rattle.meval.specs.Evaluates.{Evaluates, KeepsEval, depth_of, eval_here, inside_at, standing_of}
pub use Rattle.meval.specs.Places.{pending_view, place_view}
pub use Rattle.mgrammar.specs.Grammar.{ExprTree, ReferenceTree, TargetTree, exprs, local, no_exprs, one, several, variable}
pub use Rattle.mmeaning.proofs.Calls.{asked, assoc, did_failed, did_gives, did_lost, did_then, residual_is}
pub use Rattle.mmeaning.specs.Courses.{endless, is_past, last_turn, limited}
pub use Rattle.mmeaning.specs.Expression.{Inside, evaluated, inside, optional_value, value, values}
pub use Rattle.mmeaning.specs.Operators.{as_truth, outcome}
pub use Rattle.mmeaning.specs.Variables.{Evaluated, Place, at_local, kill_at, named_lock, of_local, put_at, read_or}
pub use Rattle.mmeaning.specs.Yields.{Yields}
pub use Rattle.mnum.specs.Num.{units}
pub use Rattle.mnum.specs.declared.num.Num.{Num}
pub use Rattle.moperator.specs.Codes.{fault_of}
pub use Rattle.moperator.specs.declared.code.Code.{Code}
pub use Rattle.moperator.specs.declared.code.Code.TheVariants.{Zmem}
pub use Rattle.mspec.proofs.ListPlaces.{next_item, none_left}
pub use Rattle.mspec.specs.Act.{Act, Gives, Text, append, ask, give, move_cursor, set_test, write, ◌>>=◌, ◌>>◌}
pub use Rattle.mspec.specs.Cursor.{after_characters}
pub use Rattle.mspec.specs.Plan.{Answer, Give_back, Op, Release, Take}
pub use Rattle.mspec.specs.TextFunctions.{set_piece_of, set_range_of}
pub use Rattle.mnodes.proofs.Doubting.{Doubts-same, Doubts-then, undoubted}
pub use Rattle.mnodes.specs.Doubt.{Doubts}
pub use Rattle.mnodes.specs.Over.{DoubtsOver}
pub use Rattle.mnodes.specs.declared.store.NodeStore.{Ghosts}
pub use Rattle.mtext.specs.Made.{Answers}
pub use Rattle.mtree.specs.Tree.{condition_tree, entry_tree, expr_tree, kind_tree, reference_tree, target_tree}
pub use Rattle.mcommand.specs.Does.{Does, DoesAt, KeepsLoans, here_of}
pub use Rattle.mcommand.specs.LockNames.{MayTake}
pub use Rattle.mcommand.specs.Prepared.{prepared_view}
pub use Rattle.mcommand.specs.ForParameters.{added, added_within, begun_within, course_view}
pub use Rattle.mcommand.specs.declared.parts.Parts.{Parts}
pub use Rattle.mcommand.specs.declared.set.Prepared.{Prepared}
