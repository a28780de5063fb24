-- SPDX-License-Identifier: Apache-2.0
use Rattle.mcommand.proofs.CommandLaws.{refl, does_then, does_stopped, does_evaluated, does_wanting, does_yielded}
use Rattle.mcommand.proofs.parts.Parts.name_step.Goals as goal

pub returns-in_err-pending : goal.returns-in_err-pending
returns-in_err-pending g c = does_stopped _ (does_yielded c.in_err-pending.ensures) c.from_residual.ensures

pub returns-in_err-names : goal.returns-in_err-names
returns-in_err-names g c =
    does_then _ (does_yielded c.in_ok-pending.ensures) (does_stopped _ (does_yielded c.in_err-names.ensures) c.from_residual-in_err-names.ensures)

pub returns-in_err-name : goal.returns-in_err-name
returns-in_err-name g c =
    does_then _ (does_yielded c.in_ok-pending.ensures)
    (does_then _ (does_yielded c.in_ok-names.ensures) (does_stopped _ (does_evaluated c.in_err-name.ensures) c.from_residual-in_err-name.ensures))

pub returns-in_err-push : goal.returns-in_err-push
returns-in_err-push g c =
    does_then _ (does_yielded c.in_ok-pending.ensures)
    (does_then _ (does_yielded c.in_ok-names.ensures)
    (does_then _ (does_evaluated c.in_ok-name.ensures) (does_wanting _ _ _ c.from_residual-in_err-push.ensures refl refl refl refl)))

pub returns : goal.returns
returns g c =
    let put = rw c.in_ok-push.ensures.items at c.put.ensures in
    does_then _ (does_yielded c.in_ok-pending.ensures)
    (does_then _ (does_yielded c.in_ok-names.ensures) (does_then _ (does_evaluated c.in_ok-name.ensures) (does_yielded put)))
