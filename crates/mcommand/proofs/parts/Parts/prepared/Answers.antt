-- SPDX-License-Identifier: Apache-2.0
use Rattle.mcommand.proofs.CommandLaws.{refl, prepared_view, does_then, does_stopped, does_gives, does_evaluated}
use Rattle.mcommand.proofs.parts.Parts.prepared.Goals as goal

pub returns-in_err-pending-in-Variable : goal.returns-in_err-pending-in-Variable
returns-in_err-pending-in-Variable g c = rw c.in-Variable.is (does_stopped _ (does_evaluated c.in_err-pending-in-Variable.ensures) c.from_residual.ensures)

pub returns-in_ok-pending-in-Variable : goal.returns-in_ok-pending-in-Variable
returns-in_ok-pending-in-Variable g c = rw c.in-Variable.is (does_then _ (does_evaluated c.in_ok-pending-in-Variable.ensures) (does_gives _ prepared_view _ refl))

pub returns-in-Part : goal.returns-in-Part
returns-in-Part g c =
    let does = rw c.deref.ensures at c.prepared_part.ensures in
    rw c.in-Part.is does
