-- SPDX-License-Identifier: Apache-2.0
use Rattle.mexec.proofs.ExecLaws.{at_then, at_stopped, at_yielded}
use Rattle.mexec.proofs.ProgramRuns.{goes_over}
use Rattle.mexec.proofs.programs.locked_timed.Goals as goal

pub returns-in_err-timeout : goal.returns-in_err-timeout
returns-in_err-timeout g c = λ x w. at_stopped _ (at_yielded c.in_err-timeout.ensures) c.from_residual.ensures

pub returns-in_err-names : goal.returns-in_err-names
returns-in_err-names g c =
    λ x w. at_then _ (at_yielded c.in_ok-timeout.ensures) (at_stopped _ (at_yielded c.in_err-names.ensures) c.from_residual-in_err-names.ensures)

pub returns : goal.returns
returns g c = λ x w.
    let does = rw c.deref.ensures.value at c.lock_done.ensures in
    rw (c.paused.ensures, c.went_on.ensures)
    (at_then _ (at_yielded c.in_ok-timeout.ensures) (at_then _ (at_yielded c.in_ok-names.ensures) (goes_over w _ c.lock_done.result does)))
