-- SPDX-License-Identifier: Apache-2.0
use Rattle.mexec.proofs.ExecLaws.{depth_of, position_of, drop, runs_wanting, runs_further, runs_within, frame_below}
use Rattle.mmeaning.specs.Frames.{Programs}
use Rattle.mprogram.specs.Wholes.{steps_of, ending_of}
use Rattle.mcommand.specs.Steps.{items_view}
use Rattle.mexec.specs.Places.{place_position}
use Rattle.mexec.proofs.programs.calling.Goals as goal

pub returns-in_err-leave-clause-does : goal.returns-in_err-leave-clause-does
returns-in_err-leave-clause-does g c = λ w whole. runs_wanting _ _ c.from_residual.ensures

pub returns-clause-does : goal.returns-clause-does
returns-clause-does g c = λ w whole.
    let frames = rw whole at c.in_ok-leave.ensures.frames in
    let does = rw (c.position.ensures, frames) at c.entering.ensures.does in
    frame_below
    (Programs (position_of (place_position c.args.place)) (depth_of c.args.call.depth) (drop c.args.call.at (steps_of w)) (ending_of w)
    (items_view c.args.call.items.items))
    (λ s n h. h) (runs_further (runs_within does))
