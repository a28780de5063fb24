-- SPDX-License-Identifier: Apache-2.0
use Rattle.mcommand.proofs.CommandLaws.{refl}
use Rattle.mcommand.proofs.StepItems.{item_on}
use Rattle.moperator.specs.declared.code.Code.TheVariants.{Zmem}
use Rattle.mmeaning.proofs.Yieldings.{yields_then, yields_stopped, yields_wanting, yields_gives}
use Rattle.mcommand.proofs.reference_steps.attach_step.Goals as goal

pub returns-in_err-values : goal.returns-in_err-values
returns-in_err-values c = yields_stopped _ c.in_err-values.ensures c.from_residual.ensures

pub returns-in_err-depth : goal.returns-in_err-depth
returns-in_err-depth c = yields_then _ c.in_ok-values.ensures (yields_stopped _ c.in_err-depth.ensures c.from_residual-in_err-depth.ensures)

pub returns-in_err-found : goal.returns-in_err-found
returns-in_err-found c =
    yields_then _ c.in_ok-values.ensures
    (yields_then _ c.in_ok-depth.ensures (yields_wanting _ _ Zmem _ refl c.from_residual-in_err-found.ensures))

pub returns-in_err-push : goal.returns-in_err-push
returns-in_err-push c =
    yields_then _ c.in_ok-values.ensures
    (yields_then _ c.in_ok-depth.ensures (yields_wanting _ _ Zmem _ refl c.from_residual-in_err-push.ensures))

pub returns : goal.returns
returns c =
    yields_then _ c.in_ok-values.ensures
    (yields_then _ c.in_ok-depth.ensures
    (yields_gives _ _ _ (rw (c.in_ok-push.ensures.items, item_on, c.in_ok-found.ensures, c.of_vec.ensures) refl)))
