-- SPDX-License-Identifier: Apache-2.0
use Rattle.mexec.proofs.ExecWords.{◌≤◌, ◌-◌, ℕ, suc, length, map, drop, Result, context, arg_tree, Code, Parts, DoesAt, position_of, args_started, begun_of}
use Rattle.mexec.specs.declared.completion.Progress.{Progress}
use Rattle.mexec.specs.declared.arguments.Entrance.{Entrance}
use Rattle.mexec.proofs.arguments.arguments_in_turn.Given as goal

abbrev pub invariant-loop-at : goal.invariant-loop-at
invariant-loop-at g l = record {
  fewer : l.parts.eval.steps ≤ l.fn.parts.eval.steps;
  leads : (r : Result (Progress Entrance × ℕ) Code) (p : Parts _)
      → DoesAt g.S.NodeStore (λ a n. args_started (context a (suc n) (position_of l.position)) (map arg_tree (drop l.at l.args))) (begun_of l.args) l.parts r p
      → DoesAt g.S.NodeStore (λ a n. args_started (context a (suc n) (position_of l.position)) (map arg_tree (drop l.from l.args)))
      (begun_of l.args) l.fn.parts r p;
}

abbrev pub decreases-loop-at : goal.decreases-loop-at
decreases-loop-at g l = length l.args - l.at
