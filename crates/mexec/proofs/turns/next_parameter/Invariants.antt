-- SPDX-License-Identifier: Apache-2.0
use Rattle.mexec.proofs.ExecWords.{◌≡◌, ◌≤◌, ◌-◌, length, List, map, drop, Result, context, View, parameter_tree, Code, Parts, commands_from, stack}
use Rattle.mexec.proofs.ExecWords.{position_of, Completion}
use Rattle.mmeaning.specs.LineMeaning as meaning
use Rattle.mexec.specs.Frames.{RunsWithin}
use Rattle.mexec.proofs.turns.next_parameter.Given as goal

abbrev pub invariant-loop-next : goal.invariant-loop-next
invariant-loop-next g l = record {
  fewer : l.parts.eval.steps ≤ l.fn.parts.eval.steps;
  scratch : l.scratch ≡ l.fn.scratch;
  leads : (r : Result Completion Code) (fs : List View) (p : Parts _)
      → RunsWithin g.S.NodeStore (λ a n. meaning.next_parameter (context a n (position_of l.body.position.value)) l.index (commands_from l.body.line.value l.body.at) (map parameter_tree (drop l.next l.parameters))) (stack l.fn.scratch.frames.items) l.parts r fs p
      → RunsWithin g.S.NodeStore (λ a n. meaning.next_parameter (context a n (position_of l.body.position.value)) l.index (commands_from l.body.line.value l.body.at) (map parameter_tree (drop l.from l.parameters))) (stack l.fn.scratch.frames.items) l.fn.parts r fs p;
}

abbrev pub decreases-loop-next : goal.decreases-loop-next
decreases-loop-next g l = length l.parameters - l.next
