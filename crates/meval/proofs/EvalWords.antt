-- SPDX-License-Identifier: Apache-2.0
-- The words that most proofs of this crate have, in one place.
pub use Rattle.std.proofs.Common.{Bool, Box, Err, Global, List, None, Ok, Option, Result, Some, Vec, [], ap, ap₂, arith, drop, false, get_or, length, map, refl}
pub use Rattle.std.proofs.Common.{rules, subst, suc, sym, take, true, zero, ℕ, ⊎_elim, ◌*◌, ◌++◌, ◌+◌, ◌<◌, ◌∙◌, ◌∷◌, ◌≡◌, ◌≢◌, ◌≤◌}
pub use Rattle.std.proofs.lemmas.Bool.{and_from, and_parts, false_from_ne_true, false≢true, or_cases, or_left, or_right}
pub use Rattle.std.proofs.lemmas.Bool.Decides.{nat_tests}
pub use Rattle.std.proofs.lemmas.List.{append-nil, nil_from_length}
pub use Rattle.std.specs.Prelude.{IsSome, IsTrue, List, Option, cond, false, pos, slice_get, true, unwrap_or, ℤ, ◌&&◌, ◌==◌, ◌↔◌}
pub use Rattle.std.specs.Result.{IsErr, IsErrAnd}
pub use Rattle.mgrammar.specs.Grammar.{ActualTree, ActualsTree, EntryTree, ExprTree, ExprsTree, OperandTree, PrimaryTree, ReferenceTree, TailTree, apply}
pub use Rattle.mgrammar.specs.Grammar.{bracket, call, choices_of, expr, exprs, exprs_of, extended, extrinsic, global, indirect, local, naked, no_exprs}
pub use Rattle.mgrammar.specs.Grammar.{no_tails, number, operand, refer, reference, select, special, tail, tails_of, text}
pub use Rattle.mgrammar.specs.Specials.{special_of}
pub use Rattle.mgrammar.specs.Functions.{VariableFunctionTree, data_function, function_of, get_function, name_function, order_function}
pub use Rattle.mmeaning.proofs.Calls.{asked, assoc, did_failed, did_gives, did_lost, did_spent, did_then, residual_is}
pub use Rattle.mmeaning.proofs.Yieldings.{yielded, yielded_so, yields_gives}
pub use Rattle.mmeaning.specs.Calls.{Did, Ends, FailedBy, Here, Standing, ops_of}
pub use Rattle.mmeaning.specs.Expression.{Inside, an_indirection_free, attached, chosen, evaluated, indirected, inside, is_indirection_free}
pub use Rattle.mmeaning.specs.Expression.{operand_value, primary_value, tail_value, tails_value, value, values}
unfoldable pub use Rattle.mmeaning.specs.Expression.{finds}
pub use Rattle.mmeaning.specs.Operators.{as_number, as_text, as_truth, binary, both_numbers}
pub use Rattle.mmeaning.specs.Variables.{Evaluated, Place, allowed, at_local, at_node, beside, checked, data_number, direction_of, environment_of, found_at}
pub use Rattle.mmeaning.specs.Variables.{name_with, named, named_lock, next_at, node_named, node_place, of_global, of_local, of_naked}
pub use Rattle.mmeaning.specs.Variables.{ordering, put_at, read_at, read_or}
pub use Rattle.mmeaning.specs.Variables.{reading, referring, replaced, resolve, some_subscript, special_value, status_at}
pub use Rattle.mmeaning.specs.Variables.{variable_function_value}
pub use Rattle.mmeaning.specs.Yields.{Yields}
pub use Rattle.mmeaning.specs.Functions.{call_value, whole_at, whole_text}
pub use Rattle.mnum.specs.Num.{units}
pub use Rattle.mnum.specs.declared.num.Num.{Num}
pub use Rattle.moperator.specs.Codes.{fault_of}
pub use Rattle.moperator.specs.declared.code.Code.{Code}
pub use Rattle.moperator.specs.declared.code.Code.TheVariants.{M4, Zmem, Zstore, Zsub}
pub use Rattle.mspec.proofs.SubscriptTests.{decides_account_name, decides_order_subscripts, decides_subscripts, order_subscripts_test, subscripts_test}
pub use Rattle.mspec.specs.Act.{Act, Fails, Gives, Locals, Text, ask, charge, fail, get_local, give, give_some, naked_is, of_locals, set_naked, unless, ◌>>=◌}
pub use Rattle.mspec.specs.Act.{◌>>◌, read_so}
unfoldable pub use Rattle.mspec.specs.Act.{no_locals, value_of}
pub use Rattle.mspec.specs.Code.{Lost, M15, M6, Own, Zgrant, Zover}
pub use Rattle.mspec.specs.KeyBytes.{AreSubscripts, IsAccountName}
pub use Rattle.mspec.specs.LockConflict.{LockName, Locks}
pub use Rattle.mspec.specs.Node.{Node}
pub use Rattle.mspec.specs.Number.{significant_digits}
pub use Rattle.mspec.specs.NumberText.{number_text, numeric_value}
pub use Rattle.mspec.specs.Subscripts.{are_order_subscripts, are_subscripts, is_account_name}
pub use Rattle.mspec.specs.Trees.{AreOrderSubscripts, Direction, text_eq}
pub use Rattle.mspec.specs.Scopes.{is_above, is_value, next_subscript}
pub use Rattle.mnodes.proofs.Doubting.{Doubts-same, Doubts-then, undoubted}
pub use Rattle.mnodes.specs.Doubt.{Doubts}
pub use Rattle.mnodes.specs.Over.{DoubtsOver}
pub use Rattle.mnodes.specs.declared.store.NodeStore.{Ghosts}
pub use Rattle.mtree.specs.Tree.{CalledTree, ChoiceTree, actual_layer, atom_tree, binary_tree, called_layer, called_tree, choice_layer, choice_tree, expr_layer}
pub use Rattle.mtree.specs.Tree.{expr_tree, operand_layer, operand_tree, primary_layer, primary_tree, reference_layer, reference_tree, referring_layer}
pub use Rattle.mtree.specs.Tree.{referring_tree, sign_tree, tail_layer, tail_tree}
pub use Rattle.mtree.specs.declared.tree.Choice.{Choice}
pub use Rattle.mtree.specs.declared.tree.Expr.{Expr}
pub use Rattle.mtree.specs.declared.tree.Tail.{Tail}
pub use Rattle.meval.specs.Acts.{data_act, data_at, direction_act, get_act, get_from, most_act, name_behind, operand_number, order_behind, order_from}
pub use Rattle.meval.specs.Acts.{primary_number, read_act}
pub use Rattle.meval.specs.Evaluates.{Evaluates, KeepsEval, Leads, depth_of, eval_here, own_global, standing_of}
pub use Rattle.meval.specs.Held.{name_view}
pub use Rattle.meval.specs.Places.{IsOpen, pending_view, place_view, status_view, undefined_at, use_of, walk_view}
pub use Rattle.meval.specs.declared.depth.Depth.{Depth}
pub use Rattle.meval.specs.declared.eval.Eval.{Eval}
pub use Rattle.meval.specs.AtHand.{at_hand_tree}
