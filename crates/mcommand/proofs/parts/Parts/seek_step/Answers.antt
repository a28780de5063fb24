-- SPDX-License-Identifier: Apache-2.0
use Rattle.mcommand.proofs.CommandLaws.{does_then, does_stopped, does_evaluated, does_yielded}
use Rattle.mcommand.proofs.parts.Parts.seek_step.Goals as goal

pub returns-in_err-pending : goal.returns-in_err-pending
returns-in_err-pending g c = does_stopped _ (does_yielded c.in_err-pending.ensures) c.from_residual.ensures

pub returns-in_err-place : goal.returns-in_err-place
returns-in_err-place g c =
    does_then _ (does_yielded c.in_ok-pending.ensures) (does_stopped _ (does_evaluated c.in_err-place.ensures) c.from_residual-in_err-place.ensures)

pub returns : goal.returns
returns g c = does_then _ (does_yielded c.in_ok-pending.ensures) (does_then _ (does_evaluated c.in_ok-place.ensures) (does_yielded c.put.ensures))
