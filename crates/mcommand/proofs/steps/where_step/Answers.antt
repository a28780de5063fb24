-- SPDX-License-Identifier: Apache-2.0
use Rattle.mcommand.proofs.CommandLaws.{refl}
use Rattle.mmeaning.proofs.Yieldings.{yields_then, yields_stopped, yields_gives}
use Rattle.mcommand.proofs.steps.where_step.Goals as goal

pub returns-in_err-value : goal.returns-in_err-value
returns-in_err-value c = yields_stopped _ c.in_err-value.ensures c.from_residual.ensures

pub returns-in_err-is_true : goal.returns-in_err-is_true
returns-in_err-is_true c = yields_then _ c.in_ok-value.ensures (yields_stopped _ c.in_err-is_true.ensures.truth c.from_residual-in_err-is_true.ensures)

pub returns : goal.returns
returns c = yields_then _ c.in_ok-value.ensures (yields_then _ c.in_ok-is_true.ensures.truth (yields_gives _ _ c.in_ok-is_true.is_true refl))
