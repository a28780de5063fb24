-- SPDX-License-Identifier: Apache-2.0
use Rattle.mcommand.proofs.Calls.{does_evaluated}
use Rattle.mcommand.proofs.parts.Parts.holds.Goals as goal

pub returns-in-Some : goal.returns-in-Some
returns-in-Some g c =
    let does = rw c.deref.ensures at c.truth.ensures.does in
    rw c.in-Some.is (does_evaluated does)
