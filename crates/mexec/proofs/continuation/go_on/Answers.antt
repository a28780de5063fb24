-- SPDX-License-Identifier: Apache-2.0
use Rattle.mexec.proofs.ExecLaws.{position_of, rest_tree, runs_wanting, stop_sound, within_resting}
use Rattle.mexec.proofs.continuation.go_on.Goals as goal

pub returns-in_err-leave-clause-does : goal.returns-in_err-leave-clause-does
returns-in_err-leave-clause-does g c = runs_wanting _ _ c.from_residual.ensures

pub returns-clause-does : goal.returns-clause-does
returns-clause-does g c =
    let does = rw c.in_ok-leave.ensures.frames at c.stopped_at.ensures.does in
    within_resting (stop_sound c.args.stop) (position_of c.args.behind.now.position.value) (rest_tree c.args.behind.now) does
