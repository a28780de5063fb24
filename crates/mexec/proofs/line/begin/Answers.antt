-- SPDX-License-Identifier: Apache-2.0
use Rattle.mexec.proofs.ExecWords.{refl}
use Rattle.mexec.proofs.line.begin.Goals as goal

pub returns-clause-frames : goal.returns-clause-frames
returns-clause-frames c = rw (c.in_ok-push.ensures.items, c.clear.ensures.items, c.in_ok-clone.ensures.cases, c.in_ok-position.ensures) refl
