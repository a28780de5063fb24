-- SPDX-License-Identifier: Apache-2.0
use Rattle.mexec.proofs.ExecLaws.{at_then, at_stopped, at_yielded}
use Rattle.mexec.proofs.ProgramRuns.{goes_over}
use Rattle.mexec.proofs.programs.merged.Goals as goal

pub returns-in_err-source : goal.returns-in_err-source
returns-in_err-source g c = λ x w. at_stopped _ (at_yielded c.in_err-source.ensures) c.from_residual.ensures

pub returns-in_err-target : goal.returns-in_err-target
returns-in_err-target g c = λ x w.
    at_then _ (at_yielded c.in_ok-source.ensures) (at_stopped _ (at_yielded c.in_err-target.ensures) c.from_residual-in_err-target.ensures)

pub returns : goal.returns
returns g c = λ x w.
    rw (c.paused.ensures, c.went_on.ensures)
    (at_then _ (at_yielded c.in_ok-source.ensures)
    (at_then _ (at_yielded c.in_ok-target.ensures) (goes_over w _ c.merge_found.result c.merge_found.ensures)))
