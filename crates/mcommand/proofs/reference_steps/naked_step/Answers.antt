-- SPDX-License-Identifier: Apache-2.0
use Rattle.mmeaning.proofs.Yieldings.{yields_then, yields_stopped}
use Rattle.mcommand.proofs.reference_steps.naked_step.Goals as goal

pub returns-in_err-values : goal.returns-in_err-values
returns-in_err-values c = yields_stopped _ c.in_err-values.ensures c.from_residual.ensures

pub returns : goal.returns
returns c =
    let put = rw c.of_vec-subscripts.ensures at c.put.ensures in
    yields_then _ c.in_ok-values.ensures put
