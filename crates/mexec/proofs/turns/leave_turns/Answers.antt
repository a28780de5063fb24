-- SPDX-License-Identifier: Apache-2.0
use Rattle.mexec.proofs.ExecLaws.{refl, stack_push, arith, size_push}
use Rattle.mexec.proofs.turns.leave_turns.Goals as goal

pub returns-clause-frames : goal.returns-clause-frames
returns-clause-frames c = rw (c.in_ok-push.ensures.items, stack_push) refl

pub returns-clause-most : goal.returns-clause-most
returns-clause-most c = rw (c.in_ok-push.ensures.items, size_push) (omega arith)
