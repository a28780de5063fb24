-- SPDX-License-Identifier: Apache-2.0
-- One name for all that reads: an example that is computed unfolds it.
use Rattle.mgrammar.proofs.GrammarWords.{special_of, keyword_of, function_of, args_at, set_argument_at, command_at, comment_at, if_argument_at, destination_at}
use Rattle.mgrammar.proofs.GrammarWords.{do_argument_at, entry_at, xecute_argument_at, new_argument_at, goto_argument_at, line_at, lock_ref_with, locked_at}
use Rattle.mgrammar.proofs.GrammarWords.{lock_argument_at, hang_argument_at, quit_argument_at, merge_argument_at, names_at, write_argument_at, parameter_at}
use Rattle.mgrammar.proofs.GrammarWords.{part_with}
use Rattle.mgrammar.proofs.GrammarWords.{postcondition_at, kill_argument_at, for_argument_at, spaced_at, target_with, atom_with, count_at, group_at}
use Rattle.mgrammar.proofs.GrammarWords.{exponent_at, list_at, many, name_at, number_at, operator_at, pattern_at, pattern_with, point_at, repeated_with}
use Rattle.mgrammar.proofs.GrammarWords.{truth_at, actual_with, actuals_with, attached_with, bracket_with, call_with, called_with, choice_with, dollar_with}
use Rattle.mgrammar.proofs.GrammarWords.{expr_with, extended_with, indirect_with, operand_with, primary_with, readers_at, refer_with, reference_with}
use Rattle.mgrammar.proofs.GrammarWords.{routine_at, select_with, shared_at, tail_by, tail_with, subscripts_with, args_of, name_of, ref_at, pattern_of, body_at}
use Rattle.mgrammar.proofs.GrammarWords.{dot_at, dots_at, formals_at, label_at, routine_line_at, Bool, true}
use Rattle.mgrammar.specs.Functions.{since_function}
use Rattle.mgrammar.specs.Specials.{since_special}
use Rattle.mgrammar.specs.Languages.{line_in, routine_line_in, ref_in, args_in}

-- its own line names them
unfoldable pub reads : Bool
unfolding actual_with actuals_with args_at args_of set_argument_at atom_with attached_with body_at bracket_with call_with called_with choice_with command_at comment_at if_argument_at
    count_at group_at destination_at dollar_with dot_at dots_at do_argument_at entry_at xecute_argument_at exponent_at expr_with extended_with formals_at function_of
    new_argument_at indirect_with keyword_of label_at goto_argument_at line_at list_at lock_ref_with locked_at lock_argument_at
    hang_argument_at quit_argument_at merge_argument_at many name_at name_of names_at number_at
    operand_with operator_at write_argument_at parameter_at pattern_at pattern_with part_with point_at postcondition_at primary_with readers_at
    ref_at pattern_of refer_with reference_with kill_argument_at repeated_with for_argument_at routine_at routine_line_at select_with shared_at spaced_at special_of tail_by tail_with
    subscripts_with target_with truth_at
reads = true

-- the same in a language
unfoldable pub reads_in : Bool
unfolding reads line_in routine_line_in ref_in args_in since_function since_special
reads_in = true
