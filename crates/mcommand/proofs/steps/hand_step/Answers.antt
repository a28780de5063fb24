-- SPDX-License-Identifier: Apache-2.0
use Rattle.mmeaning.proofs.Yieldings.{yields_then, yields_stopped}
use Rattle.mcommand.proofs.steps.hand_step.Goals as goal

pub returns-in_err-value : goal.returns-in_err-value
returns-in_err-value c = yields_stopped _ c.in_err-value.ensures c.from_residual.ensures

pub returns-in_err-test : goal.returns-in_err-test
returns-in_err-test c = yields_then _ c.in_ok-value.ensures (yields_stopped _ c.in_err-test.ensures c.from_residual-in_err-test.ensures)

pub returns : goal.returns
returns c = yields_then _ c.in_ok-value.ensures (yields_then _ c.in_ok-test.ensures c.put_handing.ensures)
