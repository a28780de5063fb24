-- SPDX-License-Identifier: Apache-2.0
use Rattle.mmeaning.proofs.Yieldings.{yields_then, yields_stopped}
use Rattle.mcommand.proofs.steps.join_step.Goals as goal

pub returns-in_err-right : goal.returns-in_err-right
returns-in_err-right c = yields_stopped _ c.in_err-right.ensures c.from_residual.ensures

pub returns-in_err-left : goal.returns-in_err-left
returns-in_err-left c = yields_then _ c.in_ok-right.ensures (yields_stopped _ c.in_err-left.ensures c.from_residual-in_err-left.ensures)

pub returns-in_err-binary : goal.returns-in_err-binary
returns-in_err-binary c =
    yields_then _ c.in_ok-right.ensures
    (yields_then _ c.in_ok-left.ensures (yields_stopped _ c.in_err-binary.ensures.value c.from_residual-in_err-binary.ensures))

pub returns : goal.returns
returns c = yields_then _ c.in_ok-right.ensures (yields_then _ c.in_ok-left.ensures (yields_then _ c.in_ok-binary.ensures.value c.put.ensures))
