-- SPDX-License-Identifier: Apache-2.0
use Rattle.mexec.proofs.ExecWords.{◌+◌, ◌*◌, commands_of, run_within, line_tree, Leads, stack, completion_of}
use Rattle.mexec.specs.Falls.{size}
use Rattle.mexec.proofs.line.run_line.Given as goal

abbrev pub invariant-loop-frame : goal.invariant-loop-frame
invariant-loop-frame g l =
    Leads g.S.NodeStore (λ a n. run_within a n (commands_of (line_tree l.fn.line.value))) l.fn.parts (stack l.scratch.frames.items) (completion_of l.completion) l.parts

abbrev pub decreases-loop-frame : goal.decreases-loop-frame
decreases-loop-frame g l = 6 * l.parts.eval.steps + size l.scratch.frames.items
