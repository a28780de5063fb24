-- SPDX-License-Identifier: Apache-2.0
-- The words that most proofs of this crate have, in one place.
pub use Rattle.std.proofs.Common.{Bool, Err, List, None, Ok, Option, Result, Some, [], ap, arith, cond, drop, eqb-true, false, get_or, is_none, is_some, le-ltb}
pub use Rattle.std.proofs.Common.{length, lt-ltb, map, not, refl, replicate, slice_get, subst, suc, sym, true, unwrap_or, zero, ℕ, ℤ, ◌*◌, ◌++◌, ◌+ℤ◌, ◌+◌, ◌-◌}
pub use Rattle.std.proofs.Common.{◌<◌, ◌∙◌, ◌∷◌, ◌≡◌, ◌≢◌, ◌≤◌}
pub use Rattle.std.proofs.lemmas.List.{drop-drop, drop_more, get_or-drop, get_or_read}
pub use Rattle.std.specs.Result.{IfOk, IsErr, IsErrAnd}
pub use Rattle.mcommand.proofs.Calls.{at_done, at_evaluated, does_evaluated, keeps_at_depth, keeps_itself, keeps_on}
pub use Rattle.mcommand.specs.Does.{Does, DoesAt, KeepsLoans, here_of}
pub use Rattle.mcommand.specs.ForParameters.{added, advanced, course_view}
pub use Rattle.mcommand.specs.declared.parts.Parts.{Parts}
pub use Rattle.meval.specs.Evaluates.{Evaluates, depth_of, standing_of}
pub use Rattle.mgrammar.specs.Commands.{form_of}
pub use Rattle.mgrammar.specs.Grammar.{ArgTree, CommandTree, ExprTree, FormTree, KeywordTree, LineTree, ParameterTree, PrimaryTree, do_one, do_word, executed}
pub use Rattle.mgrammar.specs.Grammar.{for_word, indirect_args, loop, once, onward, until}
pub use Rattle.mgrammar.specs.Languages.{args_in, line_in, routine_line_in}
pub use Rattle.mgrammar.specs.RoutineLine.{BodyTree, RoutineLineTree, dots_of, formals_of, short, spaced_out}
pub use Rattle.mmeaning.proofs.Calls.{assoc, did_failed, did_gives, did_lost, did_then, ended, failed_after, follows_itself, follows_on, residual_is}
pub use Rattle.mmeaning.proofs.Calls.{then_failed, then_follows}
pub use Rattle.mmeaning.specs.Calls.{Did, FailedBy, Follows, Gave, Here, Standing}
pub use Rattle.mmeaning.specs.Expression.{Depth, Inside, an_indirection_free, indirected, inside, primary_value, value}
pub use Rattle.mmeaning.specs.Frames.{Enough, Levels, Lists, MovedAs, MovedOn, Rests, Turns, View, frame, left}
pub use Rattle.mmeaning.specs.Levels.{Closing, Level, Target, a_level_free, commands_in, commands_of, deeper, has_dots, leaves, restores, stays, target}
pub use Rattle.mmeaning.specs.Levels.{within_indirection}
pub use Rattle.mmeaning.specs.LineMeaning.{Context, Go_on, Position, Skips, Turning, after, after_course, after_level, argument, arguments, bare, begin_turn}
pub use Rattle.mmeaning.specs.LineMeaning.{closed, commands, conditional, context, effect, given_by, holds, in_level, index_number, inside_of, line_entered}
pub use Rattle.mmeaning.specs.LineMeaning.{line_reached, lines_called, lines_from, lines_next, lines_reached, next_parameter, number_of, run, run_within, texts}
pub use Rattle.mmeaning.specs.LineMeaning.{top_level}
pub use Rattle.mmeaning.specs.Operators.{as_text, as_truth}
pub use Rattle.mmeaning.specs.Yields.{Yields}
pub use Rattle.moperator.specs.Codes.{fault_of}
pub use Rattle.moperator.specs.declared.code.Code.{Code}
pub use Rattle.moperator.specs.declared.code.Code.TheVariants.{Zmem, Zstore}
pub use Rattle.mspec.proofs.ListPlaces.{next_item, none_left}
pub use Rattle.mspec.specs.Act.{Act, Text, ask, charge, give, give_some, set_test, test_is, with_locals, write, ◌>>=◌, ◌>>◌, read_so, in_language, unless}
pub use Rattle.mspec.specs.Scopes.{killed_except, newed, newed_except}
pub use Rattle.mspec.specs.Code.{Zsyntax}
pub use Rattle.mnodes.proofs.Doubting.{Doubts-same, Doubts-then, undoubted}
pub use Rattle.mnodes.specs.Doubt.{Doubts}
pub use Rattle.mnodes.specs.Over.{DoubtsOver}
pub use Rattle.mnodes.specs.declared.store.NodeStore.{Ghosts}
pub use Rattle.mtree.specs.Tree.{actual_tree, arg_tree, called_tree, command_tree, condition_tree, destination_tree, entry_tree, expr_tree, keyword_tree}
pub use Rattle.mtree.specs.Tree.{kind_tree, line_tree, locked_tree, parameter_tree, primary_tree, reference_tree, spaced_tree}
pub use Rattle.mtree.specs.declared.tree.Arg.{Arg}
pub use Rattle.mtree.specs.declared.tree.Line.{Line}
pub use Rattle.mexec.specs.Arguments.{Entrance, entered, entrance_of, finished, into_given, into_lines, into_text, listing, start_of, started, where_applies}
pub use Rattle.mexec.specs.Entering.{at_next, entering, formals_handed, level_deeper, line_then, next_reached, on_body, reached, reaching, so_deep}
pub use Rattle.mexec.specs.Entering.{text_entered, text_position, tree_entered}
pub use Rattle.mexec.specs.Frames.{Leads, Runs, closing_of, commands_from, completion_of, loop_before, position_of, rest_tree, resting, source_args}
pub use Rattle.mexec.specs.Frames.{source_position, stack, stacked, turning, view, went}
pub use Rattle.mexec.specs.Fronts.{Stop, StopsIn, args_left, args_outcome, args_started, at_begun, at_block, at_loop, at_turns, begun_of, command_started}
pub use Rattle.mexec.specs.Fronts.{effect_started, finishes, front, front_of, line_left, outcome_of, stop_of, stops_at, turn_ends, turn_left, word_started}
pub use Rattle.mexec.specs.Loops.{args_before, has_course, has_index, is_loop, loop_in}
pub use Rattle.mexec.specs.Progress.{IfStops, Progress, behind, ends, over, progress_of, stops}
pub use Rattle.mexec.specs.declared.frames.ForLoop.{ForLoop}
pub use Rattle.mexec.specs.declared.completion.Completion.{Completion}
