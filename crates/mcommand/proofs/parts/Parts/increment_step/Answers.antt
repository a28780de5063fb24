-- SPDX-License-Identifier: Apache-2.0
use Rattle.mcommand.proofs.CommandLaws.{does_then, does_stopped, does_evaluated, does_yielded}
use Rattle.mcommand.proofs.parts.Parts.increment_step.Goals as goal

pub returns-in_err-values : goal.returns-in_err-values
returns-in_err-values g c = does_stopped _ (does_yielded c.in_err-values.ensures) c.from_residual.ensures

pub returns-in_err-pending : goal.returns-in_err-pending
returns-in_err-pending g c =
    does_then _ (does_yielded c.in_ok-values.ensures) (does_stopped _ (does_yielded c.in_err-pending.ensures) c.from_residual-in_err-pending.ensures)

pub returns-in_err-value : goal.returns-in_err-value
returns-in_err-value g c =
    let given = rw c.deref.ensures.value at c.in_err-value.ensures in
    does_then _ (does_yielded c.in_ok-values.ensures)
    (does_then _ (does_yielded c.in_ok-pending.ensures) (does_stopped _ (does_evaluated given) c.from_residual-in_err-value.ensures))

pub returns : goal.returns
returns g c =
    let given = rw c.deref.ensures.value at c.in_ok-value.ensures in
    does_then _ (does_yielded c.in_ok-values.ensures)
    (does_then _ (does_yielded c.in_ok-pending.ensures) (does_then _ (does_evaluated given) (does_yielded c.put.ensures)))
