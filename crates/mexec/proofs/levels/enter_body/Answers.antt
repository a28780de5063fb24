-- SPDX-License-Identifier: Apache-2.0
use Rattle.mexec.proofs.ExecLaws.{refl, stack_push, arith, size_push}
use Rattle.mexec.proofs.levels.enter_body.Goals as goal

pub returns-in_ok-push-in-Short-clause-frames : goal.returns-in_ok-push-in-Short-clause-frames
returns-in_ok-push-in-Short-clause-frames c =
    rw (c.in-Short.is, c.in_ok-push-in-Short.ensures.items, stack_push, c.in_ok-there.ensures.frames, c.in_ok-there.ensures.value) refl

pub returns-in_ok-line-in-Spaced-clause-frames : goal.returns-in_ok-line-in-Spaced-clause-frames
returns-in_ok-line-in-Spaced-clause-frames c =
    let frames = rw (c.in_ok-line-in-Spaced.ensures.cases, c.in_ok-there.ensures.frames, c.in_ok-there.ensures.value) at c.leave_commands.ensures.frames in
    rw c.in-Spaced.is frames

pub leave_commands-requires : goal.leave_commands-requires
leave_commands-requires c =
    let quiet = rw c.in-Spaced.is at c.requires in
    rw c.in_ok-line-in-Spaced.ensures.cases quiet

pub returns-in_ok-push-in-Short-clause-most : goal.returns-in_ok-push-in-Short-clause-most
returns-in_ok-push-in-Short-clause-most c = rw (c.in_ok-push-in-Short.ensures.items, size_push, c.in_ok-there.ensures.frames) (omega arith)
