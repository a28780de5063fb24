-- SPDX-License-Identifier: Apache-2.0
use Rattle.meval.proofs.EvalWords.{number_text, units, binary, Leads}
use Rattle.mmeaning.specs.Operators.{repeated}
use Rattle.moperator.specs.Calculations.{operator_tree}
use Rattle.meval.proofs.eval.Eval.repeat.Given as goal

abbrev pub invariant-loop-rest : goal.invariant-loop-rest
invariant-loop-rest g l = record {
  leads : Leads g.S.NodeStore (λ i. repeated (binary (operator_tree l.operator)) (number_text (units l.right)) l.count (number_text (units l.fn.left))) l.fn.self (λ i. repeated (binary (operator_tree l.operator)) (number_text (units l.right)) l.rest (number_text (units l.left))) l.self;
}

abbrev pub decreases-loop-rest : goal.decreases-loop-rest
decreases-loop-rest g l = l.rest
