-- SPDX-License-Identifier: Apache-2.0
use Rattle.mexec.proofs.ExecLaws.{None, refl, at_gives}
use Rattle.mexec.proofs.levels.next_line.Goals as goal

pub returns-in-None-clause-does : goal.returns-in-None-clause-does
returns-in-None-clause-does g c = rw c.in-None.is (at_gives None (λ found. found) None refl)

pub returns-in-Some-clause-does : goal.returns-in-Some-clause-does
returns-in-Some-clause-does g c =
    let does = rw (c.deref-in-Some.ensures.value, c.deref.ensures) at c.reached.ensures.does in
    rw c.in-Some.is does
