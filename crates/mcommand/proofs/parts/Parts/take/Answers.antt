-- SPDX-License-Identifier: Apache-2.0
use Rattle.mcommand.proofs.CommandLaws.{refl, does_wanting, does_take}
use Rattle.mcommand.proofs.parts.Parts.take.Goals as goal

pub returns-in_err-all-clause-does : goal.returns-in_err-all-clause-does
returns-in_err-all-clause-does g c = does_wanting _ _ _ c.from_residual.ensures refl c.in_err-all.ensures.err refl refl

pub returns-clause-does : goal.returns-clause-does
returns-clause-does g c = does_take c.args.names.now c.in_ok-all.all _ refl c.requires c.in_ok-all.ensures.taken c.in_ok-all.ensures.refused
