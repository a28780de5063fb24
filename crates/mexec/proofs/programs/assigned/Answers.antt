-- SPDX-License-Identifier: Apache-2.0
use Rattle.mexec.proofs.ExecLaws.{map, at_then, at_stopped, at_yielded}
use Rattle.mexec.proofs.ProgramRuns.{goes_over}
use Rattle.mexec.proofs.programs.assigned.Goals as goal

pub returns-in_err-value : goal.returns-in_err-value
returns-in_err-value g c = λ x w. at_stopped _ (at_yielded c.in_err-value.ensures) c.from_residual.ensures

pub returns-in_err-all : goal.returns-in_err-all
returns-in_err-all g c = λ x w. at_then _ (at_yielded c.in_ok-value.ensures) (at_stopped _ (at_yielded c.in_err-all.ensures) c.from_residual-in_err-all.ensures)

pub returns : goal.returns
returns g c = λ x w.
    rw (c.paused.ensures, c.went_on.ensures)
    (at_then _ (at_yielded c.in_ok-value.ensures) (at_then _ (at_yielded c.in_ok-all.ensures) (goes_over w _ c.assign_all.result c.assign_all.ensures)))
