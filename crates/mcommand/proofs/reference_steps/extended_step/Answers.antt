-- SPDX-License-Identifier: Apache-2.0
use Rattle.mcommand.proofs.CommandLaws.{refl}
use Rattle.moperator.specs.declared.code.Code.TheVariants.{Zmem}
use Rattle.mmeaning.proofs.Yieldings.{yields_then, yields_stopped, yields_wanting}
use Rattle.mcommand.proofs.reference_steps.extended_step.Goals as goal

pub returns-in_err-values : goal.returns-in_err-values
returns-in_err-values c = yields_stopped _ c.in_err-values.ensures c.from_residual.ensures

pub returns-in_err-owner : goal.returns-in_err-owner
returns-in_err-owner c = yields_then _ c.in_ok-values.ensures (yields_stopped _ c.in_err-owner.ensures c.from_residual-in_err-owner.ensures)

pub returns-in_err-pending : goal.returns-in_err-pending
returns-in_err-pending c =
    yields_then _ c.in_ok-values.ensures
    (yields_then _ c.in_ok-owner.ensures (yields_wanting _ _ Zmem _ refl c.from_residual-in_err-pending.ensures))

pub returns : goal.returns
returns c =
    let put = rw c.in_ok-pending.ensures at c.put.ensures in
    yields_then _ c.in_ok-values.ensures (yields_then _ c.in_ok-owner.ensures put)
