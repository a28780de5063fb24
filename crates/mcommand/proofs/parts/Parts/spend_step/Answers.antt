-- SPDX-License-Identifier: Apache-2.0
use Rattle.mcommand.proofs.CommandLaws.{true, refl, does_then, does_stopped, does_gives, does_evaluated}
use Rattle.mcommand.proofs.parts.Parts.spend_step.Goals as goal

pub returns-in_err-charge : goal.returns-in_err-charge
returns-in_err-charge g c = does_stopped _ (does_evaluated c.in_err-charge.ensures.does) c.from_residual.ensures

pub returns : goal.returns
returns g c = does_then _ (does_evaluated c.in_ok-charge.ensures.does) (does_gives _ _ true refl)
