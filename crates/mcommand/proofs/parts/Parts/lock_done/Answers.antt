-- SPDX-License-Identifier: Apache-2.0
use Rattle.mcommand.proofs.CommandLaws.{does_then, does_stopped}
use Rattle.mcommand.proofs.parts.Parts.lock_done.Goals as goal

pub returns-in_err-carried : goal.returns-in_err-carried
returns-in_err-carried g c = does_stopped _ c.in_err-carried.ensures c.from_residual.ensures

pub returns : goal.returns
returns g c = does_then _ c.in_ok-carried.ensures c.tell.ensures
