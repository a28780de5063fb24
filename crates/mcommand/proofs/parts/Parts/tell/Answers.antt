-- SPDX-License-Identifier: Apache-2.0
use Rattle.mcommand.proofs.CommandLaws.{refl, does_evaluated, does_gives, does_yielded}
use Rattle.mcommand.proofs.parts.Parts.tell.Goals as goal

pub returns-in-Some : goal.returns-in-Some
returns-in-Some g c = rw c.in-Some.is (does_evaluated c.set_test.ensures)

pub returns-then-carried : goal.returns-then-carried
returns-then-carried g c = rw (c.in-None.is, c.if-carried.true) (does_gives tt (λ (u : Unit {0}). u) tt refl)

pub returns-else-carried : goal.returns-else-carried
returns-else-carried g c = rw (c.in-None.is, c.if-carried.false) (does_yielded (record { ends = λ s. refl }))
