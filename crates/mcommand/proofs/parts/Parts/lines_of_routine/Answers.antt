-- SPDX-License-Identifier: Apache-2.0
use Rattle.mcommand.proofs.Calls.{does_evaluated}
use Rattle.mcommand.proofs.parts.Parts.lines_of_routine.Goals as goal

pub returns-in-Own : goal.returns-in-Own
returns-in-Own g c = rw c.in-Own.is (does_evaluated c.routine.ensures)

pub returns-in-Shared : goal.returns-in-Shared
returns-in-Shared g c =
    let read = rw c.deref.ensures at c.routine_of.ensures in
    rw c.in-Shared.is (does_evaluated read)
