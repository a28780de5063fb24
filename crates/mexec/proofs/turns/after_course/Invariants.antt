-- SPDX-License-Identifier: Apache-2.0
use Rattle.mexec.proofs.ExecWords.{◌≡◌, ◌≤◌, List, Result, context, View, Code, Parts, course_view, stack, position_of, turning, Completion}
use Rattle.mmeaning.specs.LineMeaning as meaning
use Rattle.mexec.specs.Frames.{RunsWithin}
use Rattle.mexec.proofs.turns.after_course.Given as goal

abbrev pub invariant-turns : goal.invariant-turns
invariant-turns g l = record {
  fewer : l.parts.eval.steps ≤ l.fn.parts.eval.steps;
  scratch : l.scratch ≡ l.fn.scratch;
  leads : (r : Result Completion Code) (fs : List View) (p : Parts _) → RunsWithin g.S.NodeStore (λ a n. meaning.after_course (context a n (position_of l.turns.value.body.position.value)) (turning l.turns.value) (course_view l.turns.value.course)) (stack l.fn.scratch.frames.items) l.parts r fs p
      → RunsWithin g.S.NodeStore (λ a n. meaning.after_course (context a n (position_of l.turns.value.body.position.value)) (turning l.turns.value) (course_view l.turns.value.course)) (stack l.fn.scratch.frames.items) l.fn.parts r fs p;
}

abbrev pub decreases-turns : goal.decreases-turns
decreases-turns g l = l.parts.eval.steps
