-- SPDX-License-Identifier: Apache-2.0
use Rattle.mcommand.proofs.CommandLaws.{Some, Option, refl, Text, does_then, does_stopped, does_gives, does_evaluated}
use Rattle.mcommand.proofs.parts.Parts.timeout_value.Goals as goal

pub returns-in_err-value-in-Some : goal.returns-in_err-value-in-Some
returns-in_err-value-in-Some g c =
    let does = rw c.deref.ensures at c.in_err-value-in-Some.ensures.does in
    rw c.in-Some.is (does_stopped _ (does_evaluated does) c.from_residual.ensures)

pub returns-in_ok-value-in-Some : goal.returns-in_ok-value-in-Some
returns-in_ok-value-in-Some g c =
    let does = rw c.deref.ensures at c.in_ok-value-in-Some.ensures.does in
    rw c.in-Some.is (does_then _ (does_evaluated does) (does_gives (Some c.in_ok-value-in-Some.value) (λ (o : Option Text). o) _ refl))
