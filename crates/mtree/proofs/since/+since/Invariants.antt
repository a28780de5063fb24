-- SPDX-License-Identifier: Apache-2.0
use Rattle.std.proofs.Common.{◌≡◌, drop, map}
use Rattle.std.specs.Prelude.{max}
use Rattle.mtree.specs.Tree.{expr_tree, tail_tree, choice_tree, actual_tree}
use Rattle.mgrammar.specs.Grammar.{tails_of, exprs_of, choices_of, actuals_of}
use Rattle.mgrammar.specs.Languages.{since_tails, since_exprs, since_choices, since_actuals}
use Rattle.mtree.proofs.since.+since.Given as goal

abbrev pub invariant-since_tails-loop-tail : goal.invariant-since_tails-loop-tail
invariant-since_tails-loop-tail l = max l.since (since_tails (tails_of (map tail_tree (drop l.tail-index l.tails)))) ≡ since_tails (tails_of (map tail_tree l.tails))

abbrev pub invariant-since_exprs-loop-expr : goal.invariant-since_exprs-loop-expr
invariant-since_exprs-loop-expr l = max l.since (since_exprs (exprs_of (map expr_tree (drop l.expr-index l.exprs)))) ≡ since_exprs (exprs_of (map expr_tree l.exprs))

abbrev pub invariant-since_choices-loop-choice : goal.invariant-since_choices-loop-choice
invariant-since_choices-loop-choice l =
    max l.since (since_choices (choices_of (map choice_tree (drop l.choice-index l.choices)))) ≡ since_choices (choices_of (map choice_tree l.choices))

abbrev pub invariant-since_actuals-loop-actual : goal.invariant-since_actuals-loop-actual
invariant-since_actuals-loop-actual l =
    max l.since (since_actuals (actuals_of (map actual_tree (drop l.actual-index l.actuals)))) ≡ since_actuals (actuals_of (map actual_tree l.actuals))
