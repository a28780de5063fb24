-- SPDX-License-Identifier: Apache-2.0
use Rattle.mexec.proofs.ExecLaws.{at_then, at_stopped, at_yielded}
use Rattle.mexec.proofs.ProgramRuns.{goes_over}
use Rattle.mexec.proofs.programs.killed.Goals as goal

pub returns-in_err-pending : goal.returns-in_err-pending
returns-in_err-pending g c = λ x w. at_stopped _ (at_yielded c.in_err-pending.ensures) c.from_residual.ensures

pub returns : goal.returns
returns g c = λ x w.
    rw (c.paused.ensures, c.went_on.ensures)
    (at_then _ (at_yielded c.in_ok-pending.ensures) (goes_over w _ c.kill_found.result c.kill_found.ensures))
