-- SPDX-License-Identifier: Apache-2.0
use Rattle.mcommand.proofs.CommandLaws.{does_then, does_stopped, does_evaluated}
use Rattle.mcommand.proofs.parts.Parts.tabbing.Goals as goal

pub returns-in_err-place : goal.returns-in_err-place
returns-in_err-place g c =
    let does = rw c.deref.ensures at c.in_err-place.ensures.does in
    rw c.in-Some.is (does_stopped _ (does_evaluated does) c.from_residual.ensures)

pub returns : goal.returns
returns g c =
    let does = rw c.deref.ensures at c.in_ok-place.ensures.does in
    rw c.in-Some.is (does_then _ (does_evaluated does) c.spaced_to.ensures)
