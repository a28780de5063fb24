-- SPDX-License-Identifier: Apache-2.0
-- The words that most proofs of this crate have, in one place.
pub use Rattle.std.proofs.Common.{All, Bool, List, None, Option, Some, [], ap, append_assoc, arith, cond, drop, eqb, false, inl, inr, length, length-append}
pub use Rattle.std.proofs.Common.{map, not, refl, replicate, rules, subst, suc, sym, take, true, zero, ℕ, ◌++◌, ◌+◌, ◌-◌, ◌<◌, ◌↔◌, ◌∙◌, ◌∷◌, ◌≡◌, ◌≢◌, ◌≤◌}
pub use Rattle.std.proofs.Common.{◌⊎◌}
pub use Rattle.std.proofs.lemmas.Bool.{and_parts, eqb-true, false_from_ne_true, le-leb, leb-false, leb-true}
pub use Rattle.std.proofs.lemmas.Bool.Decides.{Decides-eqb, nat_tests}
pub use Rattle.std.proofs.lemmas.List.{append-nil, length-replicate, take-append-drop}
pub use Rattle.std.specs.List.{filter, list_all, list_any}
pub use Rattle.std.specs.Prelude.{Decides, codes, nat_eq, nat_le, ◌&&◌, ◌||◌}
pub use Rattle.mspec.specs.Literal.{Exponent, ExponentSign, IsDigits, IsExponent, IsFraction, IsLiteral, IsMantissa, Literal, Minus, Plus, Unsigned, is_digit}
pub use Rattle.mspec.specs.Literal.{spell_exponent, spell_fraction, spell_literal, spell_sign}
pub use Rattle.mspec.specs.Names.{AllAre, IsName, is_character, is_letter, is_name_rest, is_name_start}
pub use Rattle.mgrammar.specs.Commands.{form_of, takes_args, takes_condition}
unfoldable pub use Rattle.mgrammar.specs.Commands.{keyword_of}
pub use Rattle.mgrammar.specs.Functions.{FunctionTree, ValueFunctionTree, VariableFunctionTree, is_part, of_choices, of_values, of_variable, takes}
unfoldable pub use Rattle.mgrammar.specs.Functions.{function_of}
pub use Rattle.mgrammar.specs.Grammar.{ActualTree, ActualsTree, ArgTree, AtomTree, AtomsTree, PatternsTree, BinaryTree, ChoicesTree, CommandTree, CountTree}
pub use Rattle.mgrammar.specs.Grammar.{DestinationTree, EntryTree, ExprTree, ExprsTree, FormTree, KeywordTree, LineTree, LockKindTree, LockedTree, OperandTree}
pub use Rattle.mgrammar.specs.Grammar.{ParameterTree, PrimaryTree, ReferenceTree, RepeatedTree, RoutineTree, SignTree, SpacedTree, TailTree, TailsTree}
pub use Rattle.mgrammar.specs.Grammar.{TargetTree, TruthTree, actuals, actuals_of, add, adding, anew, apply, assign, at_label, at_label_in, at_routine, both}
pub use Rattle.mgrammar.specs.Grammar.{bracket, call, coded, formats, choice, choices_of, atoms_of, classes, contains, copies, group, more_atoms, more_patterns}
pub use Rattle.mgrammar.specs.Grammar.{no_atoms, no_patterns, patterns_of, divide, divide_whole, do_argument, do_one, do_word, either, else_word, equals}
pub use Rattle.mgrammar.specs.Grammar.{execute_word, executed, expr, exprs, exprs_of, extended, extrinsic, follows, for_argument, for_word, giving_back, global}
pub use Rattle.mgrammar.specs.Grammar.{go_to, goto_argument, goto_word, greater, halt_word, hang_word, halt_or_hang_word, if_argument, if_word, indirect}
pub use Rattle.mgrammar.specs.Grammar.{indirect_actual, indirect_args, is, is_bang, is_format, is_not, is_pattern_letter, join, kill_argument, kill_one}
pub use Rattle.mgrammar.specs.Grammar.{kill_others, kill_word, less, local, lock_argument, hang_argument, quit_argument, merge_argument, merge_one, merge_word}
pub use Rattle.mgrammar.specs.Grammar.{lock_one, lock_several, lock_word}
pub use Rattle.mgrammar.specs.Grammar.{locked, hang_for, loop, returned, matches, matches_indirect, matches_not, matches_not_indirect, may_be_indirect, minus}
pub use Rattle.mgrammar.specs.Grammar.{missing_actual, multiply, naked, name_actual, negate, new_argument, new_one, new_others, new_word, no_actuals}
pub use Rattle.mgrammar.specs.Grammar.{no_argument, no_choices, no_exprs, no_tails, number, once, one, onward, operand, own_routine, part, plus, quit_word}
pub use Rattle.mgrammar.specs.Grammar.{quoted, raise, refer, reference, remainder, select, set_argument, set_word, several, shared_routine, shown, sorts_after}
pub use Rattle.mgrammar.specs.Grammar.{special, spell, spell_actual, spell_actuals, spell_arg, spell_args, spell_atom, spell_atoms, spell_counted}
pub use Rattle.mgrammar.specs.Grammar.{spell_more_patterns, spell_patterns, spell_run, spell_attached, spell_behind, spell_binary, spell_called, spell_choices}
pub use Rattle.mgrammar.specs.Grammar.{spell_command, spell_commands, spell_comment, spell_condition, spell_destination, spell_entry, spell_expr, spell_exprs}
pub use Rattle.mgrammar.specs.Grammar.{spell_kind, spell_list, spell_locked, spell_more, spell_more_actuals, spell_more_choices, spell_more_exprs, spell_names}
pub use Rattle.mgrammar.specs.Grammar.{spell_operand, spell_parameter, spell_primary, spell_reference, spell_repeated, spell_routine, spell_signs, spell_string}
pub use Rattle.mgrammar.specs.Grammar.{spell_subscripts, spell_tab, spell_tail, spell_tails, spell_target, spell_truth, subtract, tail, tails_of, tested, text}
pub use Rattle.mgrammar.specs.Grammar.{until, value_actual, variable, write_argument, write_word, xecute_argument}
pub use Rattle.mgrammar.specs.Specials.{SpecialTree}
unfoldable pub use Rattle.mgrammar.specs.Specials.{special_of}
pub use Rattle.mgrammar.specs.IndirectTexts.{whole_by}
unfoldable pub use Rattle.mgrammar.specs.IndirectTexts.{args_of, name_of, pattern_of, ref_at}
pub use Rattle.mgrammar.specs.Reading.{arg_at, at_end, command_by, comment_by, conditioned, doing_called, entry_by, given_by, has_args, increment_by, is_space}
pub use Rattle.mgrammar.specs.Reading.{kind_of, limit_by, merge_argument_by, operand_by, operand_or, part_by, postcondition_by, set_argument_by, settled_with}
pub use Rattle.mgrammar.specs.Reading.{spaced, value_by}
pub use Rattle.mgrammar.specs.Reading.{write_argument_by}
unfoldable pub use Rattle.mgrammar.specs.Reading.{args_at, command_at, comment_at, destination_at, do_argument_at, entry_at, for_argument_at, goto_argument_at}
unfoldable pub use Rattle.mgrammar.specs.Reading.{if_argument_at, kill_argument_at, line_at, lock_argument_at, hang_argument_at, quit_argument_at}
unfoldable pub use Rattle.mgrammar.specs.Reading.{merge_argument_at, lock_ref_with, locked_at, names_at, new_argument_at, parameter_at, part_with}
unfoldable pub use Rattle.mgrammar.specs.Reading.{postcondition_at, set_argument_at, spaced_at, target_with, write_argument_at, xecute_argument_at}
pub use Rattle.mgrammar.specs.ReadingExpressions.{Readers, attached_at, attached_by, dollar_by, dollars_by, expr_at, function_by, global_by, inner_at}
pub use Rattle.mgrammar.specs.ReadingExpressions.{is_actual_end, is_reference_point, local_by, name_actual_by, matches_by, matches_not_by, owned_by}
pub use Rattle.mgrammar.specs.ReadingExpressions.{reference_by, routine_by, special_by, tail_behind}
unfoldable pub use Rattle.mgrammar.specs.ReadingExpressions.{actual_with, actuals_with, attached_with, bracket_with, call_with, called_with, choice_with, dollar_with, expr_with, extended_with, indirect_with, operand_with, primary_with, readers_at, refer_with, reference_with, routine_at, select_with, shared_at, subscripts_with, tail_by, tail_with}
pub use Rattle.mgrammar.specs.ReadingWords.{OperatorTree, Read, after_behind, after_comma, after_run, after_sign, after_signs, arithmetic, behind_of, between}
pub use Rattle.mgrammar.specs.ReadingWords.{classes_by, comma_by, exponent_by, follows_at, found, is_count, is_digit_or_point, is_plus_or_minus, matching}
pub use Rattle.mgrammar.specs.ReadingWords.{matching_not, more_by, negated_at, number_by, one_sign, past, pattern_by, plain_by, point_by, raising, run_of}
pub use Rattle.mgrammar.specs.ReadingWords.{signs_of, text_from, times_at, truths, with_front, ◌>>=◌}
unfoldable pub use Rattle.mgrammar.specs.ReadingWords.{atom_with, count_at, group_at, exponent_at, list_at, many, name_at, number_at, operator_at, pattern_at, pattern_with, point_at, repeated_with, truth_at}
pub use Rattle.mgrammar.specs.RoutineLine.{BodyTree, RoutineLineTree, WellBody, WellFormals, WellLabel, are_distinct, body_by, dot_by, dots_in, dots_of}
pub use Rattle.mgrammar.specs.RoutineLine.{dots_of_body, formals_behind, formals_by, formals_of, has_formals, is_dot, is_space_or_dot, label_by, label_ends}
pub use Rattle.mgrammar.specs.RoutineLine.{label_of, listed_by, routine_line_by, short, spaced_out, spell_body, spell_dot, spell_dots, spell_formals}
pub use Rattle.mgrammar.specs.RoutineLine.{spell_label, spell_routine_line, unlike, well_routine_line}
unfoldable pub use Rattle.mgrammar.specs.RoutineLine.{body_at, dot_at, dots_at, formals_at, label_at, routine_line_at}
pub use Rattle.mgrammar.specs.WellFormed.{HasAtom, HasChoice, HasExpr, HasPattern, IsAttached, IsCall, IsCount, IsPart, IsReferring, SpellsNumber, WellActual}
pub use Rattle.mgrammar.specs.WellFormed.{WellActuals, WellAll, WellArg, WellAtom, WellBelow, WellCalled, WellChoices, WellCommand, WellCommands, WellComment}
pub use Rattle.mgrammar.specs.WellFormed.{WellCondition, WellCount, WellDestination, WellEntry, WellExpr, WellExprs, WellList, WellLockRef, WellLocked}
pub use Rattle.mgrammar.specs.WellFormed.{WellMoreActuals, WellOperand, WellOptional, WellParameter, WellPatterns, WellPlain, WellPrimary, WellReference}
pub use Rattle.mgrammar.specs.WellFormed.{WellRepeated, WellRoutine, WellRun, WellSubscripts, WellTail, WellTails, WellTarget, bare_arg, bare_destination}
pub use Rattle.mgrammar.specs.WellFormed.{bare_expr, bare_primary, bare_reference, exprs_count, is_named, least_gap, max_depth, settled, well}
