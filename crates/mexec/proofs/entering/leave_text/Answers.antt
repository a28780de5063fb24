-- SPDX-License-Identifier: Apache-2.0
use Rattle.mexec.proofs.entering.leave_text.Goals as goal

pub returns-clause-frames : goal.returns-clause-frames
returns-clause-frames c = rw (c.in_ok-inner.ensures.frames, c.in_ok-inner.ensures.value, c.in_ok-clone.ensures.cases) at c.leave_commands.ensures.frames
