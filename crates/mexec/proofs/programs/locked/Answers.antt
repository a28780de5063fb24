-- SPDX-License-Identifier: Apache-2.0
use Rattle.mexec.proofs.programs.locked.Goals as goal

pub returns-then-is_timed : goal.returns-then-is_timed
returns-then-is_timed g c = λ x w. rw c.if-is_timed.true (c.locked_timed.ensures x w)

pub returns-else-is_timed : goal.returns-else-is_timed
returns-else-is_timed g c = λ x w. rw c.if-is_timed.false (c.locked_plainly.ensures x w)
