-- SPDX-License-Identifier: Apache-2.0
use Rattle.mcommand.proofs.CommandLaws.{does_then, does_stopped, does_evaluated, does_yielded}
use Rattle.mcommand.proofs.parts.Parts.tail_step.Goals as goal

pub returns-in_err-value : goal.returns-in_err-value
returns-in_err-value g c = does_stopped _ (does_yielded c.in_err-value.ensures) c.from_residual.ensures

pub returns-in_err-tail : goal.returns-in_err-tail
returns-in_err-tail g c =
    does_then _ (does_yielded c.in_ok-value.ensures) (does_stopped _ (does_evaluated c.in_err-tail.ensures) c.from_residual-in_err-tail.ensures)

pub returns : goal.returns
returns g c = does_then _ (does_yielded c.in_ok-value.ensures) (does_then _ (does_evaluated c.in_ok-tail.ensures) (does_yielded c.put.ensures))
