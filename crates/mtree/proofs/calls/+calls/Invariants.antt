-- SPDX-License-Identifier: Apache-2.0
use Rattle.std.proofs.Common.{◌≡◌, drop, map}
use Rattle.std.specs.Prelude.{◌||◌}
use Rattle.mtree.specs.Tree.{expr_tree, tail_tree, choice_tree}
use Rattle.mgrammar.specs.Grammar.{tails_of, exprs_of, choices_of}
use Rattle.mgrammar.specs.CallsIn.{has_call_tails, has_call_exprs, has_call_choices}
use Rattle.mtree.proofs.calls.+calls.Given as goal

abbrev pub invariant-has_call_tails-loop-tail : goal.invariant-has_call_tails-loop-tail
invariant-has_call_tails-loop-tail l = l.found || has_call_tails (tails_of (map tail_tree (drop l.tail-index l.tails))) ≡ has_call_tails (tails_of (map tail_tree l.tails))

abbrev pub invariant-has_call_exprs-loop-expr : goal.invariant-has_call_exprs-loop-expr
invariant-has_call_exprs-loop-expr l = l.found || has_call_exprs (exprs_of (map expr_tree (drop l.expr-index l.exprs))) ≡ has_call_exprs (exprs_of (map expr_tree l.exprs))

abbrev pub invariant-has_call_choices-loop-choice : goal.invariant-has_call_choices-loop-choice
invariant-has_call_choices-loop-choice l =
    l.found || has_call_choices (choices_of (map choice_tree (drop l.choice-index l.choices))) ≡ has_call_choices (choices_of (map choice_tree l.choices))
