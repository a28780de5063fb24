-- SPDX-License-Identifier: Apache-2.0
-- The words that most proofs of this crate have, in one place.
pub use Rattle.std.proofs.Common.{Box, Global, List, None, Option, Some, Vec, [], ap, arith, length, map, refl, rules, subst, suc, sym, zero, ℕ, ◌*◌, ◌++◌, ◌+◌}
pub use Rattle.std.proofs.Common.{◌-◌, ◌<◌, ◌↔◌, ◌∙◌, ◌∷◌, ◌≡◌}
pub use Rattle.std.proofs.lemmas.Bool.Decides.{nat_tests}
pub use Rattle.std.proofs.lemmas.Grind.{common_steps}
pub use Rattle.std.proofs.lemmas.List.{map_push}
pub use Rattle.std.proofs.lemmas.Result.{err_from_is_err_and}
pub use Rattle.std.specs.Prelude.{Err, IfOk, Ok, Result}
pub use Rattle.mgrammar.proofs.ReadingIndirectTexts.{reads_its_arguments, reads_its_reference}
pub use Rattle.mgrammar.proofs.ReadingLines.{reads_its_tree}
pub use Rattle.mgrammar.proofs.ReadingRoutines.{reads_its_routine_tree}
pub use Rattle.mgrammar.proofs.ReadingLoops.{comma_goes_on, comma_stops, goes_on, is_done, list_begins, stops}
pub use Rattle.mgrammar.specs.Grammar.{ExprTree, LineTree, OperandTree, PrimaryTree, ReferenceTree, TailTree, exprs_of, spell, spell_arg, spell_list}
pub use Rattle.mgrammar.specs.Grammar.{spell_reference, tails_of}
pub use Rattle.mgrammar.specs.IndirectTexts.{args_of, ref_at}
pub use Rattle.mgrammar.specs.Reading.{line_at, spaced_at}
unfoldable pub use Rattle.mgrammar.specs.Reading.{parameter_at}
pub use Rattle.mgrammar.specs.ReadingExpressions.{choice_with, inner_at, readers_at, tail_with}
pub use Rattle.mgrammar.specs.ReadingWords.{Read, after_comma, many, past, run_of, with_front}
unfoldable pub use Rattle.mgrammar.specs.ReadingWords.{list_at, number_at, point_at}
pub use Rattle.mspec.specs.Literal.{is_digit}
pub use Rattle.mgrammar.specs.RoutineLine.{RoutineLineTree, dot_at, routine_line_at, spell_routine_line, well_routine_line}
unfoldable pub use Rattle.mgrammar.specs.RoutineLine.{dots_at}
pub use Rattle.mgrammar.specs.WellFormed.{WellArg, WellList, WellReference, bare_expr, bare_primary, bare_reference, max_depth, well}
pub use Rattle.mscan.proofs.Faults.{comma_fails, fails, list_fails}
pub use Rattle.mscan.specs.Gives.{Gives}
pub use Rattle.mscan.specs.declared.fault.ParseFault.{ParseFault}
pub use Rattle.mscan.specs.declared.fault.ParseFault.TheVariants.{Syntax}
pub use Rattle.mtree.specs.Tree.{CalledTree, ChoiceTree, actual_layer, actual_tree, arg_tree, called_layer, called_tree, choice_layer, choice_tree, expr_layer}
pub use Rattle.mtree.specs.Tree.{expr_tree, keyword_tree, line_tree, operand_layer, operand_tree, primary_layer, primary_tree, reference_layer, reference_tree}
pub use Rattle.mtree.specs.Tree.{referring_layer, routine_line_tree, sign_tree, spaced_tree, tail_layer, tail_tree}
pub use Rattle.mtree.specs.declared.tree.Expr.{Expr}
