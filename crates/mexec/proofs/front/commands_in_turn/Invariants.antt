-- SPDX-License-Identifier: Apache-2.0
use Rattle.mexec.proofs.ExecWords.{◌≤◌, ◌-◌, ℕ, length, Result, context, Code, Parts, DoesAt, commands_from, position_of, front, front_of}
use Rattle.mexec.specs.declared.completion.Progress.{Progress}
use Rattle.mexec.specs.declared.front.Stop.{Stop}
use Rattle.mexec.proofs.front.commands_in_turn.Given as goal

abbrev pub invariant-loop-at : goal.invariant-loop-at
invariant-loop-at g l = record {
  fewer : l.parts.eval.steps ≤ l.fn.parts.eval.steps;
  leads : (r : Result (Progress Stop × ℕ) Code) (p : Parts _) → DoesAt g.S.NodeStore (λ a n. front (context a n (position_of l.position)) (commands_from l.line l.at)) (front_of l.line) l.parts r p
      → DoesAt g.S.NodeStore (λ a n. front (context a n (position_of l.position)) (commands_from l.line l.from)) (front_of l.line) l.fn.parts r p;
}

abbrev pub decreases-loop-at : goal.decreases-loop-at
decreases-loop-at g l = length l.line.commands.items - l.at
