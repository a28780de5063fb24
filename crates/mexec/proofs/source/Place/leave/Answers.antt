-- SPDX-License-Identifier: Apache-2.0
use Rattle.mexec.proofs.ExecLaws.{refl, arith, stack_push, size_push}
use Rattle.mexec.proofs.source.Place.leave.Goals as goal

pub returns-clause-frames : goal.returns-clause-frames
returns-clause-frames c =
    rw (c.in_ok-push.ensures.items, stack_push, c.in_ok-new.ensures.ok, c.in_ok-holder.ensures.whole, c.in_ok-holder.ensures.position) refl

pub returns-clause-most : goal.returns-clause-most
returns-clause-most c = rw (c.in_ok-push.ensures.items, size_push) (omega arith)
