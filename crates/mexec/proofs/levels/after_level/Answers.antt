-- SPDX-License-Identifier: Apache-2.0
use Rattle.mexec.proofs.Calls.{runs_done}
use Rattle.mexec.proofs.levels.after_level.Goals as goal

pub returns-in-GoOn-clause-does : goal.returns-in-GoOn-clause-does
returns-in-GoOn-clause-does g c = rw c.in-GoOn.is c.lines_next.ensures.does

pub returns-in-Skips-clause-does : goal.returns-in-Skips-clause-does
returns-in-Skips-clause-does g c = rw c.in-Skips.is c.lines_next-in-Skips.ensures.does

pub returns-in-Quits-clause-does : goal.returns-in-Quits-clause-does
returns-in-Quits-clause-does g c = rw c.in-Quits.is (runs_done c.closed.result c.closed.ensures)

pub returns-in-Goes-clause-does : goal.returns-in-Goes-clause-does
returns-in-Goes-clause-does g c = rw c.in-Goes.is c.go_to.ensures.does

pub returns-in-Returns-clause-does : goal.returns-in-Returns-clause-does
returns-in-Returns-clause-does g c = rw c.in-Returns.is (runs_done c.closed-in-Returns.result c.closed-in-Returns.ensures)
