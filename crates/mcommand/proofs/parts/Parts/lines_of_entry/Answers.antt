-- SPDX-License-Identifier: Apache-2.0
use Rattle.mcommand.proofs.parts.Parts.lines_of_entry.Goals as goal

pub returns-in-LabelIn : goal.returns-in-LabelIn
returns-in-LabelIn g c = rw c.in-LabelIn.is c.lines_of_routine.ensures

pub returns-in-Routine : goal.returns-in-Routine
returns-in-Routine g c = rw c.in-Routine.is c.lines_of_routine-in-Routine.ensures
