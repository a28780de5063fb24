-- SPDX-License-Identifier: Apache-2.0
use Rattle.mcommand.proofs.CommandLaws.{Bool, true, refl, Take, give, ask, does_then, does_gives}
use Rattle.mcommand.proofs.parts.Parts.carry.Goals as goal

pub returns-in-Anew-clause-does : goal.returns-in-Anew-clause-does
returns-in-Anew-clause-does g c = rw c.in-Anew.is (does_then (λ i _. ask (Take c.args.names.now)) c.release.ensures.does c.take.ensures.does)

pub returns-in-Adding-clause-does : goal.returns-in-Adding-clause-does
returns-in-Adding-clause-does g c = rw c.in-Adding.is c.take-in-Adding.ensures.does

pub returns-in-GivingBack-clause-does : goal.returns-in-GivingBack-clause-does
returns-in-GivingBack-clause-does g c = rw c.in-GivingBack.is (does_then (λ i _. give true) c.give_back_all.ensures.does (does_gives true (λ (b : Bool). b) true refl))
