-- SPDX-License-Identifier: Apache-2.0
-- The words and the lemmas that the answers of this crate's functions have, in one place.
pub use Rattle.mexec.proofs.ExecWords.{Act, ArgTree, Bool, Code, CommandTree, Context, DoesAt, Err, ForLoop, FormTree, Ghosts, Go_on, Level, List, None, Ok}
pub use Rattle.mexec.proofs.ExecWords.{Option, Parts, PrimaryTree, Progress, Rests, Result, Runs, Some, Stop, Target, Text, View, Yields, Zmem, Zsyntax, []}
pub use Rattle.mexec.proofs.ExecWords.{a_level_free, an_indirection_free, ap, arg_tree, args_before, args_left, args_started, arith, ask, at_block, at_done}
pub use Rattle.mexec.proofs.ExecWords.{at_evaluated, at_loop, at_turns, begin_turn, begun_of, closed, closing_of, commands_from, commands_of, completion_of}
pub use Rattle.mexec.proofs.ExecWords.{cond, condition_tree, context, deeper, depth_of, destination_tree, does_evaluated, drop, effect_started, ended}
pub use Rattle.mexec.proofs.ExecWords.{entrance_of, actual_tree, called_tree, entry_tree, expr_tree, fault_of, form_of, formals_handed, front, front_of, get_or}
pub use Rattle.mexec.proofs.ExecWords.{get_or_read, give, give_some, given_by, in_level, inside, inside_of, into_given, keyword_tree, killed_except, kind_tree}
pub use Rattle.mexec.proofs.ExecWords.{leaves, length, line_tree, lines_next, locked_tree, map, newed, newed_except, none_left, not, outcome_of, over}
pub use Rattle.mexec.proofs.ExecWords.{parameter_tree, position_of, primary_tree, primary_value, reference_tree, refl, replicate, residual_is, rest_tree}
pub use Rattle.mexec.proofs.ExecWords.{restores, set_test, slice_get, source_args, source_position, start_of, stop_of, stops, suc, sym, target, test_is}
pub use Rattle.mexec.proofs.ExecWords.{text_entered, text_position, tree_entered, true, turn_left, turning, unwrap_or, with_locals, within_indirection, write}
pub use Rattle.mexec.proofs.ExecWords.{◌+◌, ◌-◌, ◌<◌, ◌>>=◌, ◌>>◌, ◌∙◌, ◌∷◌, ◌≡◌, ◌≤◌, line_in, read_so, standing_of}
pub use Rattle.mexec.proofs.ArgumentRuns.{argument_begins, argument_stopped, before_uncalled, entered_where, parameter_uncalled, parameter_stepped}
pub use Rattle.mexec.proofs.ArgumentRuns.{enters_where, gives_over, most_ahead, plain_ahead, spent_ahead, enters_fits, enters_sound}
pub use Rattle.mexec.proofs.ArgumentRuns.{one_uncalled, pause_stops, source_uncalled, started_with, started_without, where_enters}
pub use Rattle.mmeaning.proofs.Uncalled.{neither}
pub use Rattle.mexec.proofs.ConditionRuns.{argument_there, argument_whole, condition_runs, condition_there}
pub use Rattle.mexec.specs.Arguments.{program_started, progress_at}
pub use Rattle.mexec.proofs.Sizes.{falls_further, size_push, lists_weigh}
pub use Rattle.mexec.proofs.RareFrames.{rare_left}
pub use Rattle.mexec.proofs.Calls.{one_more, further_then, further_stopped, further_if, further_ended, further_on, further_failed, then_if}
pub use Rattle.mexec.proofs.Calls.{runs_weaker, runs_further}
pub use Rattle.mexec.proofs.Calls.{at_as, at_depth, at_failed, at_gives, at_stopped, at_then, at_wanting, goes_here, goes_on, frame_below, frame_top, runs_as}
pub use Rattle.mexec.proofs.Calls.{runs_completion, runs_done, runs_spent, runs_stopped, runs_then, runs_wanting, runs_within, within_entered, within_listing}
pub use Rattle.mexec.proofs.Calls.{within_resting, within_spent, within_stopped, within_then, some_item, stack_push, testing_is}
pub use Rattle.mexec.proofs.FrontRuns.{ahead_before, bare_ahead, begun_ahead, stop_fits, stop_sound, args_there, argument_before, arguments_is}
pub use Rattle.mexec.proofs.FrontRuns.{begun_stops, command_there, condition_stop, effect_is, effect_stops}
pub use Rattle.mexec.proofs.FrontRuns.{in_command, item_there, loop_stop, turns_stop, charge_stopped, command_begins, command_stopped, front_runs, front_stops}
pub use Rattle.mexec.proofs.FrontRuns.{front_stopped, gives_stop, other_started, passes_next, after_turn_is, turn_over, turn_stops, turn_stopped}
pub use Rattle.mexec.proofs.Indexes.{any_course, no_course, no_parameters, not_found}
pub use Rattle.mexec.proofs.LevelRuns.{at_any, at_plain, at_read, at_yielded, is_within, line_refused, line_runs, line_begins, line_listed, line_unlisted}
pub use Rattle.mexec.proofs.LevelRuns.{lines_are, lines_opened, lines_opened_as, list_entered, listed, passes_line, passing_failed, stops_at, target_entered}
pub use Rattle.mexec.proofs.LevelRuns.{text_opened, then_closed, unlisted}
pub use Rattle.mexec.proofs.Here.{coding_here, formatting_here, handed_over_here, hanging_here, holds_here, killing_here, locking_here, merging_here}
pub use Rattle.mexec.proofs.Here.{primary_here}
pub use Rattle.mexec.proofs.Here.{returning_here, setting_here, showing_here, started_here, testing_here, value_here}
pub use Rattle.mcommand.proofs.Spoken.{at_in}
pub use Rattle.std.proofs.lemmas.Option.{slice_get_read}
pub use Rattle.std.specs.Prelude.{option_map}
pub use Rattle.mexec.proofs.ExecWords.{subst}
pub use Rattle.mexec.proofs.Closings.{closed_plainly, closing_restores, value_missed, value_refused, value_taken}
pub use Rattle.mexec.proofs.Lines.{condition_fails, leads_ends, leads_first, leads_on, leads_stopped, list_passes, rest_passes}
pub use Rattle.mexec.proofs.Loops.{parameter_there, parameter_ending, parameter_calls, turning_from, started_paused, started_unpaused, course_runs}
pub use Rattle.mexec.proofs.Loops.{falls_failed, falls_one_more, falls_off, falls_off_program, falls_within, further_runs, loop_within, no_parameters_run}
pub use Rattle.mexec.proofs.Loops.{not_gone_on, parameter_runs, parameter_stopped, turn_begins, turn_charge_failed, turned_on, turned_to, turning_of_none}
pub use Rattle.mexec.proofs.Texts.{done, failed, never_refused, refused}
pub use Rattle.mexec.proofs.PlayedTexts.{before_stepped, commands_stepped, line_played, one_stepped, played_plain, played_stepped, rest_stepped}
pub use Rattle.mexec.proofs.PlayedTexts.{routine_line_played, source_stepped}
pub use Rattle.mexec.specs.Frames.{loop_in}
pub use Rattle.mmeaning.specs.Levels.{Position}
pub use Rattle.mmeaning.specs.LineMeaning.{Completion, given}
