-- SPDX-License-Identifier: Apache-2.0
use Rattle.moperator.proofs.Numbers.{whole_fits}
use Rattle.moperator.proofs.OperatorWords.{yields_then, yields_stopped}
use Rattle.moperator.proofs.function_calls.name_part.Goals as goal

pub returns-in_err-place : goal.returns-in_err-place
returns-in_err-place c =
    let refused = rw (whole_fits c.args.number c.requires) at c.in_err-place.ensures in
    yields_stopped _ refused c.from_residual.ensures

pub returns-in_err-parts : goal.returns-in_err-parts
returns-in_err-parts c =
    let placed = rw (whole_fits c.args.number c.requires) at c.in_ok-place.ensures in
    yields_then _ placed (yields_stopped _ c.in_err-parts.ensures c.from_residual-in_err-parts.ensures)
