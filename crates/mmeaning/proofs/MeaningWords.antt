-- SPDX-License-Identifier: Apache-2.0
-- The words that most proofs of this crate have, in one place.
pub use Rattle.std.proofs.Common.{Bool, Err, List, None, Ok, Option, Result, Some, [], ap, arith, cond, false, refl, rules, subst, suc, sym, true, zero, ℕ, ◌*◌}
pub use Rattle.std.proofs.Common.{◌++◌, ◌+◌, ◌<◌, ◌∙◌, ◌∷◌, ◌≡◌, ◌≤◌}
pub use Rattle.std.proofs.lemmas.Bool.Decides.{nat_tests}
pub use Rattle.std.proofs.lemmas.Cmp.{nat_cmp_total}
pub use Rattle.std.specs.FinMap.{FinMap, empty, entries, entries-insert, get, get-empty, get-insert, get-remove, insert, remove, retain_keys, same_map}
unfoldable pub use Rattle.std.specs.Fmt.{digits}
pub use Rattle.std.specs.List.{list_all}
pub use Rattle.std.specs.Ordering.{eq_by_cmp, nat_cmp}
pub use Rattle.std.specs.Prelude.{codes, map, nat_lt, not, option_map, replicate, ◌^◌}
pub use Rattle.mspec.proofs.ComputedMaps.{computed_maps, entries_none, text_again, text_none, text_put, tree_again, tree_none, tree_put}
pub use Rattle.mspec.proofs.ComputedNumbers.{computed_numbers, round_pos, text_1, text_16, text_2, text_3, text_4, text_8, value_some}
unfoldable pub use Rattle.mspec.proofs.ComputedNumbers.{computes}
pub use Rattle.mspec.proofs.MapCuts.{cut_drops, equal_of, get_cut}
pub use Rattle.mspec.proofs.NodeOrders.{node_cmp_exact, node_cmp_total}
pub use Rattle.mspec.proofs.Plans.{cut_first, cut_second, cut_whole, keeps, keeps_short, perform-then}
pub use Rattle.mspec.specs.Access.{Grant, Mode, Read, Write, may}
pub use Rattle.mspec.specs.Act.{Act, Fails, Given, Gives, Locals, Node, Outcome, State, Text, ask, fail, give, give_some, on_gives, read_so, ◌>>=◌}
unfoldable pub use Rattle.mspec.specs.Act.{assigned_to, level_begun, level_bound, no_locals, value_of}
pub use Rattle.mspec.specs.Code.{Code, Fault, Halting, Lost, M1, M10, M11, M13, M15, M16, M17, M20, M28, M4, M58, M6, M7, M9, M94, Memory, Own, Store, Zarg}
pub use Rattle.mspec.specs.Code.{Zchar, Zdepth, Zgrant, Zlevel, Zline, Zlocked, Zlong, Zover, Zsteps, Zsub, Zsyntax, Zterm, is_halting}
pub use Rattle.mspec.specs.Cursor.{Cursor, home}
pub use Rattle.mspec.specs.Globals.{Globals, is_node_within, lines_of, status}
pub use Rattle.mspec.specs.LockConflict.{Held, LockName, Locks, given_back, held, held_cmp, released, taken}
pub use Rattle.mspec.specs.NodeOrder.{node_cmp}
unfoldable pub use Rattle.mspec.specs.NodeOrder.{canonical_value}
pub use Rattle.mspec.specs.Number.{significant_digits}
unfoldable pub use Rattle.mspec.specs.NumberText.{size_text}
pub use Rattle.mspec.specs.Plan.{Answer, Ask, Done, Following, Give_back, Kill, May, Neighbour, Op, Ops, Plan, Put, Release, Routine, Status, Take, Value}
pub use Rattle.mspec.specs.Plan.{cut_short}
pub use Rattle.mspec.specs.Plan.{perform, then_plan}
pub use Rattle.mspec.specs.Scopes.{Scope, bottom}
unfoldable pub use Rattle.mgrammar.proofs.Computing.{reads_in}
pub use Rattle.mgrammar.specs.Grammar.{ActualsTree, ArgTree, BinaryTree, CommandTree, EntryTree, ExprTree, ExprsTree, KeywordTree, LineTree, OperandTree}
pub use Rattle.mgrammar.specs.Grammar.{PrimaryTree, ReferenceTree, SpacedTree, adding, anew, apply, assign, at_label, at_label_in, bracket, coded, divide}
pub use Rattle.mgrammar.specs.Grammar.{do_argument, do_one, do_word, execute_word, executed, expr, exprs, extended, for_word, formats, giving_back, global}
pub use Rattle.mgrammar.specs.Grammar.{go_to, goto_argument, goto_word, if_argument, indirect, indirect_args, is, join, kill_argument, kill_one, less, local}
pub use Rattle.mgrammar.specs.Grammar.{lock_argument, lock_one, lock_several, locked, loop, minus, multiply, naked, new_argument, new_one, no_actuals, no_exprs}
pub use Rattle.mgrammar.specs.Grammar.{no_tails, number, one, operand, own_routine, quit_word, refer, reference, set_argument, set_word, shared_routine, shown}
pub use Rattle.mgrammar.specs.Grammar.{tail, tested, text, until, variable, write_argument, write_word, xecute_argument}
unfoldable pub use Rattle.mgrammar.specs.IndirectTexts.{args_of, ref_at}
unfoldable pub use Rattle.mgrammar.specs.Languages.{args_in, line_in, ref_in, routine_line_in}
unfoldable pub use Rattle.mgrammar.specs.Reading.{do_argument_at, entry_at}
unfoldable pub use Rattle.mgrammar.specs.ReadingExpressions.{actuals_with, called_with}
unfoldable pub use Rattle.mgrammar.specs.ReadingWords.{list_at, many, name_at}
pub use Rattle.mgrammar.specs.RoutineLine.{RoutineLineTree, dots_of, spaced_out}
unfoldable pub use Rattle.mgrammar.specs.RoutineLine.{formals_at, label_at}
pub use Rattle.mmeaning.specs.Calls.{Did, Ends, FailedBy, Follows, Gave, Here, IsCut, MayLose, Standing, ops_of}
pub use Rattle.mmeaning.specs.Expression.{Calls, Depth, Inside, evaluated, inside, is_indirection_free, value}
unfoldable pub use Rattle.mmeaning.specs.Expression.{finds}
pub use Rattle.mmeaning.specs.Frames.{Enough, Levels, MovedAs, MovedOn, Rests, View, frame, left}
pub use Rattle.mmeaning.specs.History.{opening, replies, world_after}
pub use Rattle.mmeaning.specs.Levels.{commands_in, commands_of, lines_of_routine, stays, target}
pub use Rattle.mmeaning.specs.LineMeaning.{Closing, Completion, Context, Go_on, Goes, Position, Quits, Skips, Texts, Turning, after_level, after_turn}
pub use Rattle.mmeaning.specs.LineMeaning.{answering, arguments, closed, commands, context, doing, doing_block, executing, given, going, line_end, run_within}
pub use Rattle.mmeaning.specs.LineMeaning.{setting, texts, top_level}
pub use Rattle.mmeaning.specs.Parameters.{formals_in}
pub use Rattle.mmeaning.specs.Shared.{Shared, act, guarded, may_call, may_lock, may_read, may_write, took}
pub use Rattle.mmeaning.specs.Transition.{Account, Ending, Event, Faulted, Finished, Halted, Reply, Session, Settings, Transition, TransitionBy, World}
pub use Rattle.mmeaning.specs.Transition.{at_account, begun, checked, ended, ending_of, is_ascii, is_failure, is_too_long, kept, normal, plan_of, refused}
pub use Rattle.mmeaning.specs.Transition.{reply_of, session_or_new, settled, text_run}
pub use Rattle.mmeaning.specs.TransitionLaws.{HistoryIsNormal, NoneShowsHalting, NormalNeverFails, NormalTransitionsAreHistory, PlanKeepsOthersLocks}
pub use Rattle.mmeaning.specs.Variables.{Evaluated, of_global, of_local, of_naked}
