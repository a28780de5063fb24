-- SPDX-License-Identifier: Apache-2.0
use Rattle.mcommand.proofs.CommandLaws.{does_then, does_stopped, does_evaluated, does_yielded}
use Rattle.mcommand.proofs.parts.Parts.raise_step.Goals as goal

pub returns-in_err-right : goal.returns-in_err-right
returns-in_err-right g c = does_stopped _ (does_yielded c.in_err-right.ensures) c.from_residual.ensures

pub returns-in_err-left : goal.returns-in_err-left
returns-in_err-left g c =
    does_then _ (does_yielded c.in_ok-right.ensures) (does_stopped _ (does_yielded c.in_err-left.ensures) c.from_residual-in_err-left.ensures)

pub returns-in_err-raise : goal.returns-in_err-raise
returns-in_err-raise g c =
    does_then _ (does_yielded c.in_ok-right.ensures)
    (does_then _ (does_yielded c.in_ok-left.ensures) (does_stopped _ (does_evaluated c.in_err-raise.ensures) c.from_residual-in_err-raise.ensures))

pub returns : goal.returns
returns g c =
    does_then _ (does_yielded c.in_ok-right.ensures)
    (does_then _ (does_yielded c.in_ok-left.ensures) (does_then _ (does_evaluated c.in_ok-raise.ensures) (does_yielded c.put.ensures)))
