-- SPDX-License-Identifier: Apache-2.0
use Rattle.mexec.proofs.ExecLaws.{suc, refl, sym, give, inside, context, position_of, parameter_tree, at_as, at_done, at_gives, at_then, at_stopped, one_more}
use Rattle.mexec.proofs.ExecLaws.{started_here, started_paused, started_unpaused, rest_tree, option_map}
use Rattle.mcommand.specs.ForParameters.{course_view, started}
use Rattle.mmeaning.specs.Programs.{turns}
use Rattle.mprogram.specs.Wholes.{of_parameter}
use Rattle.mexec.specs.Programs.{pause_of}
use Rattle.mexec.specs.declared.programs.Pause.TheVariants as pause
use Rattle.mexec.proofs.turns.parameter_begun.Goals as goal

pub returns-then-calls_in_parameter : goal.returns-then-calls_in_parameter
returns-then-calls_in_parameter g c = λ rest there.
    let has = rw c.if-calls_in_parameter.true at c.calls_in_parameter.ensures in
    at_as (λ a n. started_paused (context a (suc n) (position_of c.args.body.now.position.value)) c.args.index.now (parameter_tree c.args.parameter.now) rest (rest_tree c.args.body.now) (sym has))
    (c.first_begun.ensures _ there)

pub returns-in_err-course : goal.returns-in_err-course
returns-in_err-course g c = λ rest there.
    let p = position_of c.args.body.now.position.value in
    let index = c.args.index.now in
    let q = parameter_tree c.args.parameter.now in
    let none = sym (rw c.if-calls_in_parameter.false at c.calls_in_parameter.ensures) in
    let does = rw c.deref.ensures at c.in_err-course.ensures in
    at_as (λ a n. started_unpaused (context a (suc n) p) index q rest (rest_tree c.args.body.now) none)
    (at_stopped (λ a n c. give (turns c))
    (at_as (λ a n. started_here p index q none a (suc n))
    (one_more (λ a n. started (inside a n p.depth) index q) (at_done c.args.body.now.position.value.depth does)))
    c.from_residual.ensures)

pub returns : goal.returns
returns g c = λ rest there.
    let p = position_of c.args.body.now.position.value in
    let index = c.args.index.now in
    let q = parameter_tree c.args.parameter.now in
    let none = sym (rw c.if-calls_in_parameter.false at c.calls_in_parameter.ensures) in
    let does = rw c.deref.ensures at c.in_ok-course.ensures in
    at_as (λ a n. started_unpaused (context a (suc n) p) index q rest (rest_tree c.args.body.now) none)
    (at_then (λ a n c. give (turns c))
    (at_as (λ a n. started_here p index q none a (suc n))
    (one_more (λ a n. started (inside a n p.depth) index q) (at_done c.args.body.now.position.value.depth does)))
    (at_gives (turns (option_map course_view c.in_ok-course.course)) (pause_of (of_parameter index q rest (rest_tree c.args.body.now))) (pause.Turns c.in_ok-course.course) refl))
