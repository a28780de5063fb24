-- SPDX-License-Identifier: Apache-2.0
use Rattle.mcommand.proofs.CommandLaws.{does_then, does_stopped, does_yielded}
use Rattle.mcommand.proofs.parts.Parts.prepare_step.Goals as goal

pub returns-in_err-all : goal.returns-in_err-all
returns-in_err-all g c = does_stopped _ c.in_err-all.ensures c.from_residual.ensures

pub returns : goal.returns
returns g c = does_then _ c.in_ok-all.ensures (does_yielded c.put.ensures)
