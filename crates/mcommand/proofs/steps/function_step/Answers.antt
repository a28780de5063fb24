-- SPDX-License-Identifier: Apache-2.0
use Rattle.mmeaning.proofs.Yieldings.{yields_then, yields_stopped}
use Rattle.mcommand.proofs.steps.function_step.Goals as goal

pub returns-in_err-values : goal.returns-in_err-values
returns-in_err-values c = yields_stopped _ c.in_err-values.ensures c.from_residual.ensures

pub returns-in_err-value : goal.returns-in_err-value
returns-in_err-value c =
    let given = rw c.deref.ensures.value at c.in_err-value.ensures.value in
    yields_then _ c.in_ok-values.ensures (yields_stopped _ given c.from_residual-in_err-value.ensures)

pub returns : goal.returns
returns c =
    let given = rw c.deref.ensures.value at c.in_ok-value.ensures.value in
    yields_then _ c.in_ok-values.ensures (yields_then _ given c.put.ensures)
