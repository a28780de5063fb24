-- SPDX-License-Identifier: Apache-2.0
use Rattle.mcommand.proofs.CommandLaws.{refl}
use Rattle.moperator.specs.declared.code.Code.TheVariants.{Zmem}
use Rattle.mmeaning.proofs.Yieldings.{yields_then, yields_stopped, yields_wanting}
use Rattle.mcommand.proofs.steps.add_step.Goals as goal

pub returns-in_err-value : goal.returns-in_err-value
returns-in_err-value c = yields_stopped _ c.in_err-value.ensures c.from_residual.ensures

pub returns-in_err-values : goal.returns-in_err-values
returns-in_err-values c = yields_then _ c.in_ok-value.ensures (yields_stopped _ c.in_err-values.ensures c.from_residual-in_err-values.ensures)

pub returns-in_err-push : goal.returns-in_err-push
returns-in_err-push c =
    yields_then _ c.in_ok-value.ensures (yields_then _ c.in_ok-values.ensures (yields_wanting _ _ Zmem _ refl c.from_residual-in_err-push.ensures))

pub returns : goal.returns
returns c =
    let put = rw c.in_ok-push.ensures.items at c.put.ensures in
    yields_then _ c.in_ok-value.ensures (yields_then _ c.in_ok-values.ensures put)
