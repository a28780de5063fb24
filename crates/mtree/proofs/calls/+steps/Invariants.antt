-- SPDX-License-Identifier: Apache-2.0
use Rattle.std.proofs.Common.{◌≡◌, drop, map}
use Rattle.std.specs.Prelude.{◌&&◌}
use Rattle.mtree.specs.Tree.{expr_tree, tail_tree, choice_tree, actual_tree}
use Rattle.mgrammar.specs.Grammar.{tails_of, exprs_of, choices_of, actuals_of}
use Rattle.mgrammar.specs.ProgramsIn.{in_steps_tails, in_steps_exprs, in_steps_choices, in_steps_actuals}
use Rattle.mtree.proofs.calls.+steps.Given as goal

abbrev pub invariant-in_steps_tails-loop-tail : goal.invariant-in_steps_tails-loop-tail
invariant-in_steps_tails-loop-tail l =
    l.all && in_steps_tails (tails_of (map tail_tree (drop l.tail-index l.tails))) ≡ in_steps_tails (tails_of (map tail_tree l.tails))

abbrev pub invariant-in_steps_exprs-loop-expr : goal.invariant-in_steps_exprs-loop-expr
invariant-in_steps_exprs-loop-expr l =
    l.all && in_steps_exprs (exprs_of (map expr_tree (drop l.expr-index l.exprs))) ≡ in_steps_exprs (exprs_of (map expr_tree l.exprs))

abbrev pub invariant-in_steps_choices-loop-choice : goal.invariant-in_steps_choices-loop-choice
invariant-in_steps_choices-loop-choice l =
    l.all && in_steps_choices (choices_of (map choice_tree (drop l.choice-index l.choices))) ≡ in_steps_choices (choices_of (map choice_tree l.choices))

abbrev pub invariant-in_steps_actuals-loop-actual : goal.invariant-in_steps_actuals-loop-actual
invariant-in_steps_actuals-loop-actual l =
    l.all && in_steps_actuals (actuals_of (map actual_tree (drop l.actual-index l.actuals))) ≡ in_steps_actuals (actuals_of (map actual_tree l.actuals))
