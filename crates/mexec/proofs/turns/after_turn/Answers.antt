-- SPDX-License-Identifier: Apache-2.0
use Rattle.mexec.proofs.ExecLaws.{context, completion_of, position_of, turning, runs_completion, runs_as}
use Rattle.mexec.proofs.ExecLaws.{within_then, within_stopped, at_yielded, after_turn_is}
use Rattle.mexec.proofs.ExecLaws.{turn_left}
use Rattle.mexec.proofs.turns.after_turn.Goals as goal

pub returns-in_err-turn_ends-clause-does : goal.returns-in_err-turn_ends-clause-does
returns-in_err-turn_ends-clause-does g c =
    let t = c.args.turns.value in
    let p = position_of t.body.position.value in
    runs_as (λ a n. after_turn_is (context a n p) (turning t) (completion_of c.args.completion))
    (within_stopped (λ a n. turn_left (context a n p) (turning t)) (at_yielded c.in_err-turn_ends.ensures) c.from_residual.ensures)

pub returns-in-None-clause-does : goal.returns-in-None-clause-does
returns-in-None-clause-does g c =
    let t = c.args.turns.value in
    let p = position_of t.body.position.value in
    let ends = rw c.in-None.is at c.in_ok-turn_ends.ensures in
    runs_as (λ a n. after_turn_is (context a n p) (turning t) (completion_of c.args.completion))
    (within_then (λ a n. turn_left (context a n p) (turning t)) (at_yielded ends) c.after_course.ensures.does)

pub returns-in-Some-clause-does : goal.returns-in-Some-clause-does
returns-in-Some-clause-does g c =
    let t = c.args.turns.value in
    let p = position_of t.body.position.value in
    let ends = rw c.in-Some.is at c.in_ok-turn_ends.ensures in
    runs_as (λ a n. after_turn_is (context a n p) (turning t) (completion_of c.args.completion))
    (within_then (λ a n. turn_left (context a n p) (turning t)) (at_yielded ends) (runs_completion c.in-Some.completion))
