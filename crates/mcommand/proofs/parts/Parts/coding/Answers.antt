-- SPDX-License-Identifier: Apache-2.0
use Rattle.mcommand.proofs.CommandLaws.{does_then, does_stopped, does_evaluated}
use Rattle.mcommand.proofs.parts.Parts.coding.Goals as goal

pub returns-in_err-number : goal.returns-in_err-number
returns-in_err-number g c = does_stopped _ (does_evaluated c.in_err-number.ensures.does) c.from_residual.ensures

pub returns : goal.returns
returns g c = does_then _ (does_evaluated c.in_ok-number.ensures.does) c.character_written.ensures
