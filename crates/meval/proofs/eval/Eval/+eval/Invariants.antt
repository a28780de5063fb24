-- SPDX-License-Identifier: Apache-2.0
use Rattle.meval.proofs.EvalWords.{◌≤◌, ◌+◌, ◌*◌, [], map, drop, Result, number_text, units, tails_of, exprs_of, choices_of, expr_tree, tail_tree, choice_tree}
use Rattle.meval.proofs.EvalWords.{Code, Eval, Evaluates, KeepsEval, Leads}
use Rattle.std.proofs.Common.{List}
use Rattle.mspec.specs.Act.{Text}
use Rattle.mmeaning.specs.Expression as meaning
use Rattle.meval.proofs.eval.Eval.+eval.Given as goal

-- Steps fall in number at `primary` alone, which charges one before it goes on; each other call leads to a lower rank.

abbrev pub decreases-primary : goal.decreases-primary
decreases-primary g l = 16 * l.self.now.steps + 0

abbrev pub decreases-operand : goal.decreases-operand
decreases-operand g l = 16 * l.self.now.steps + 1

abbrev pub decreases-named : goal.decreases-named
decreases-named g l = 16 * l.self.now.steps + 1

abbrev pub decreases-matches_indirect : goal.decreases-matches_indirect
decreases-matches_indirect g l = 16 * l.self.now.steps + 1

abbrev pub decreases-operand_into : goal.decreases-operand_into
decreases-operand_into g l = 16 * l.self.now.steps + 2

abbrev pub decreases-other_number : goal.decreases-other_number
decreases-other_number g l = 16 * l.self.now.steps + 2

abbrev pub decreases-eval_into : goal.decreases-eval_into
decreases-eval_into g l = 16 * l.self.now.steps + 3

abbrev pub decreases-operand_number : goal.decreases-operand_number
decreases-operand_number g l = 16 * l.self.now.steps + 3

abbrev pub decreases-tail : goal.decreases-tail
decreases-tail g l = 16 * l.self.now.steps + 3

abbrev pub decreases-raised : goal.decreases-raised
decreases-raised g l = 16 * l.self.now.steps + 2

abbrev pub decreases-with_tails : goal.decreases-with_tails
decreases-with_tails g l = 16 * l.self.now.steps + 4

abbrev pub decreases-chain : goal.decreases-chain
decreases-chain g l = 16 * l.self.now.steps + 4

abbrev pub decreases-with_rest : goal.decreases-with_rest
decreases-with_rest g l = 16 * l.self.now.steps + 5

abbrev pub decreases-eval : goal.decreases-eval
decreases-eval g l = 16 * l.self.now.steps + 4

abbrev pub decreases-expression_number : goal.decreases-expression_number
decreases-expression_number g l = 16 * l.self.now.steps + 4

abbrev pub decreases-values : goal.decreases-values
decreases-values g l = 16 * l.self.now.steps + 5

abbrev pub decreases-fast_two : goal.decreases-fast_two
decreases-fast_two g l = 16 * l.self.now.steps + 5

abbrev pub decreases-fast_three : goal.decreases-fast_three
decreases-fast_three g l = 16 * l.self.now.steps + 5

abbrev pub decreases-chosen : goal.decreases-chosen
decreases-chosen g l = 16 * l.self.now.steps + 5

abbrev pub decreases-called : goal.decreases-called
decreases-called g l = 16 * l.self.now.steps + 6

abbrev pub decreases-global : goal.decreases-global
decreases-global g l = 16 * l.self.now.steps + 6

abbrev pub decreases-extended : goal.decreases-extended
decreases-extended g l = 16 * l.self.now.steps + 6

abbrev pub decreases-direction : goal.decreases-direction
decreases-direction g l = 16 * l.self.now.steps + 6

abbrev pub decreases-most : goal.decreases-most
decreases-most g l = 16 * l.self.now.steps + 6

abbrev pub decreases-evaluated : goal.decreases-evaluated
decreases-evaluated g l = 16 * l.self.now.steps + 7

abbrev pub decreases-fast_node : goal.decreases-fast_node
decreases-fast_node g l = 16 * l.self.now.steps + 4

abbrev pub decreases-fast_referring : goal.decreases-fast_referring
decreases-fast_referring g l = 16 * l.self.now.steps + 4

abbrev pub decreases-fast_get : goal.decreases-fast_get
decreases-fast_get g l = 16 * l.self.now.steps + 6

abbrev pub decreases-fast_order : goal.decreases-fast_order
decreases-fast_order g l = 16 * l.self.now.steps + 7

abbrev pub decreases-fast_name : goal.decreases-fast_name
decreases-fast_name g l = 16 * l.self.now.steps + 7

abbrev pub decreases-fast_own : goal.decreases-fast_own
decreases-fast_own g l = 16 * l.self.now.steps + 6

abbrev pub decreases-place_to_read : goal.decreases-place_to_read
decreases-place_to_read g l = 16 * l.self.now.steps + 8

abbrev pub decreases-place_value : goal.decreases-place_value
decreases-place_value g l = 16 * l.self.now.steps + 9

abbrev pub decreases-data_of : goal.decreases-data_of
decreases-data_of g l = 16 * l.self.now.steps + 9

abbrev pub decreases-get_of : goal.decreases-get_of
decreases-get_of g l = 16 * l.self.now.steps + 9

abbrev pub decreases-order_of : goal.decreases-order_of
decreases-order_of g l = 16 * l.self.now.steps + 8

abbrev pub decreases-fast_increment : goal.decreases-fast_increment
decreases-fast_increment g l = 16 * l.self.now.steps + 6

abbrev pub decreases-increment_of : goal.decreases-increment_of
decreases-increment_of g l = 16 * l.self.now.steps + 8

abbrev pub decreases-fast_query : goal.decreases-fast_query
decreases-fast_query g l = 16 * l.self.now.steps + 7

abbrev pub decreases-query_of : goal.decreases-query_of
decreases-query_of g l = 16 * l.self.now.steps + 8

abbrev pub decreases-name_of : goal.decreases-name_of
decreases-name_of g l = 16 * l.self.now.steps + 8

abbrev pub decreases-variable : goal.decreases-variable
decreases-variable g l = 16 * l.self.now.steps + 10

abbrev pub decreases-fast_through : goal.decreases-fast_through
decreases-fast_through g l = 16 * l.self.now.steps + 6

abbrev pub decreases-through_given : goal.decreases-through_given
decreases-through_given g l = 16 * l.self.now.steps + 10

abbrev pub decreases-named_by : goal.decreases-named_by
decreases-named_by g l = 16 * l.self.now.steps + 11

abbrev pub decreases-through : goal.decreases-through
decreases-through g l = 16 * l.self.now.steps + 9

abbrev pub decreases-referring : goal.decreases-referring
decreases-referring g l = 16 * l.self.now.steps + 10

abbrev pub invariant-chosen-loop-choice : goal.invariant-chosen-loop-choice
invariant-chosen-loop-choice g l = record {
  fewer : l.self.steps ≤ l.fn.self.steps;
  leads : (r : Result Text Code) (e : Eval _) → Evaluates g.S.NodeStore (λ a. meaning.chosen a (choices_of (map choice_tree (drop l.choice-index l.choices)))) (λ (v : Text). v) l.self r e
      → Evaluates g.S.NodeStore (λ a. meaning.chosen a (choices_of (map choice_tree l.choices))) (λ (v : Text). v) l.fn.self r e;
}

abbrev pub invariant-with_tails-loop-tail : goal.invariant-with_tails-loop-tail
invariant-with_tails-loop-tail g l = record {
  fewer : l.self.steps ≤ l.fn.self.steps;
  leads : (f : Unit {0} → Text) (r : Result (Unit {0}) Code) (e : Eval _) → Evaluates g.S.NodeStore (λ a. meaning.tails_value a l.value (tails_of (map tail_tree (drop l.tail-index l.tails)))) f l.self r e
      → Evaluates g.S.NodeStore (λ a. meaning.tails_value a l.fn.value (tails_of (map tail_tree l.tails))) f l.fn.self r e;
}

abbrev pub invariant-values-loop-e : goal.invariant-values-loop-e
invariant-values-loop-e g l = record {
  fewer : l.self.steps ≤ l.fn.self.steps;
  leads : (r : Result (List Text) Code) (e : Eval _) → Evaluates g.S.NodeStore (λ a. meaning.values a l.values.items (exprs_of (map expr_tree (drop l.e-index l.exprs)))) (λ (v : List Text). v) l.self r e
      → Evaluates g.S.NodeStore (λ a. meaning.values a [] (exprs_of (map expr_tree l.exprs))) (λ (v : List Text). v) l.fn.self r e;
}

abbrev pub invariant-chain-loop-i : goal.invariant-chain-loop-i
invariant-chain-loop-i g l = record {
  keeps : KeepsEval l.fn.self l.self;
  leads : Leads g.S.NodeStore (λ a. meaning.tails_value a (number_text (units l.fn.left)) (tails_of (map tail_tree l.tails))) l.fn.self (λ a. meaning.tails_value a (number_text (units l.left)) (tails_of (map tail_tree (drop l.i l.tails)))) l.self;
}
