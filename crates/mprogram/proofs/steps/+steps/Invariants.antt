-- SPDX-License-Identifier: Apache-2.0
use Rattle.std.proofs.Common.{◌≡◌, drop, map}
use Rattle.mtree.specs.Tree.{expr_tree, tail_tree, choice_tree, actual_tree}
use Rattle.mgrammar.specs.Grammar.{tails_of, exprs_of, choices_of, actuals_of}
use Rattle.mprogram.specs.Found.{in_tails, in_values, in_choices, in_actuals}
use Rattle.mprogram.proofs.steps.+steps.Given as goal

abbrev pub invariant-in_tails-loop-tail : goal.invariant-in_tails-loop-tail
invariant-in_tails-loop-tail l = in_tails (tails_of (map tail_tree (drop l.tail-index l.tails))) l.left ≡ in_tails (tails_of (map tail_tree l.tails)) l.fn.at

abbrev pub invariant-in_values-loop-expr : goal.invariant-in_values-loop-expr
invariant-in_values-loop-expr l = in_values (exprs_of (map expr_tree (drop l.expr-index l.exprs))) l.left ≡ in_values (exprs_of (map expr_tree l.exprs)) l.fn.at

abbrev pub invariant-in_choices-loop-index : goal.invariant-in_choices-loop-index
invariant-in_choices-loop-index l =
    in_choices (choices_of (map choice_tree (drop l.index l.choices))) l.left ≡ in_choices (choices_of (map choice_tree l.choices)) l.fn.at

abbrev pub invariant-in_actuals-loop-actual : goal.invariant-in_actuals-loop-actual
invariant-in_actuals-loop-actual l =
    in_actuals (actuals_of (map actual_tree (drop l.actual-index l.actuals))) l.left ≡ in_actuals (actuals_of (map actual_tree l.actuals)) l.fn.at
