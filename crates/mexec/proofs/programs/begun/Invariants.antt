-- SPDX-License-Identifier: Apache-2.0
use Rattle.mexec.proofs.ExecWords.{◌-◌, length, Result, Code, Parts, depth_of}
use Rattle.mprogram.specs.Wholes.{steps_of}
use Rattle.mprogram.specs.Views.{whole_view}
use Rattle.mcommand.specs.Steps.{items_view}
use Rattle.mexec.specs.declared.programs.Pause.{Pause}
use Rattle.mexec.proofs.ProgramRuns.{From}
use Rattle.mexec.proofs.programs.begun.Given as goal

abbrev pub invariant-loop-op : goal.invariant-loop-op
invariant-loop-op g l = record {
  leads : (r : Result Pause Code) (p : Parts _)
      → From g.S.NodeStore (whole_view l.whole) l.position (depth_of l.parts.eval.depth) l.at (items_view l.stack.items) l.parts r p
      → From g.S.NodeStore (whole_view l.whole) l.position (depth_of l.fn.depth) l.from (items_view l.fn.items.items) l.fn.parts r p;
}

abbrev pub decreases-loop-op : goal.decreases-loop-op
decreases-loop-op g l = length (steps_of (whole_view l.whole)) - l.at
