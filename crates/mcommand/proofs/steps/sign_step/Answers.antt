-- SPDX-License-Identifier: Apache-2.0
use Rattle.mmeaning.proofs.Yieldings.{yields_then, yields_stopped}
use Rattle.mcommand.proofs.steps.sign_step.Goals as goal

pub returns-in_err-value : goal.returns-in_err-value
returns-in_err-value c = yields_stopped _ c.in_err-value.ensures c.from_residual.ensures

pub returns-in_err-signed : goal.returns-in_err-signed
returns-in_err-signed c = yields_then _ c.in_ok-value.ensures (yields_stopped _ c.in_err-signed.ensures.value c.from_residual-in_err-signed.ensures)

pub returns : goal.returns
returns c = yields_then _ c.in_ok-value.ensures (yields_then _ c.in_ok-signed.ensures.value c.put.ensures)
