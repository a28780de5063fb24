-- SPDX-License-Identifier: Apache-2.0
use Rattle.mexec.proofs.ExecLaws.{refl, option_map, at_any, at_gives, at_then, at_stopped, at_yielded}
use Rattle.mcommand.specs.ForParameters.{course_view}
use Rattle.mmeaning.specs.Programs.{turns}
use Rattle.mexec.specs.Programs.{pause_of}
use Rattle.mexec.specs.declared.programs.Pause.TheVariants as pause
use Rattle.mexec.proofs.programs.looped.Goals as goal

pub returns-in_err-left : goal.returns-in_err-left
returns-in_err-left g c = λ x rest body w. at_stopped _ (at_yielded c.in_err-left.ensures) c.from_residual.ensures

pub returns-in_err-course : goal.returns-in_err-course
returns-in_err-course g c = λ x rest body w.
    at_then _ (at_yielded c.in_ok-left.ensures) (at_stopped _ (at_any c.in_err-course.ensures) c.from_residual-in_err-course.ensures)

pub returns : goal.returns
returns g c = λ x rest body w.
    at_then _ (at_yielded c.in_ok-left.ensures)
    (at_then _ (at_any c.in_ok-course.ensures) (at_gives (turns (option_map course_view c.in_ok-course.course)) (pause_of w) (pause.Turns c.in_ok-course.course) refl))
