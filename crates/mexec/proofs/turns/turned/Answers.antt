-- SPDX-License-Identifier: Apache-2.0
use Rattle.mexec.proofs.ExecLaws.{◌+◌, ◌≡◌, refl, arith, runs_wanting, turned_on, turned_to}
use Rattle.mexec.proofs.turns.turned.Goals as goal

pub returns-in_default-clause-does : goal.returns-in_default-clause-does
returns-in_default-clause-does g c = λ w there. runs_wanting _ _ (refl, refl)

pub returns-in_default-checked_add-clause-does : goal.returns-in_default-checked_add-clause-does
returns-in_default-checked_add-clause-does g c = λ w there. runs_wanting _ _ (refl, refl)

pub returns-in-None-clause-does : goal.returns-in-None-clause-does
returns-in-None-clause-does g c = λ w there.
    let found = rw c.deref.ensures at c.in-Some.ensures.found in
    let next : c.in-Some-checked_add.next ≡ c.args.at + 1 = omega (arith, c.in-Some-checked_add.ensures.1) in
    let index = c.in-Some.index.now in
    let parameters = c.in-Some.parameters.now in
    rw c.in-None.is
    (turned_on c.args.body.now c.args.at w there c.in-Some-checked_add.next index parameters next found c.next_parameter.ensures.does)

pub returns-in-Some-course-clause-does : goal.returns-in-Some-course-clause-does
returns-in-Some-course-clause-does g c = λ w there.
    let next : c.in-Some-checked_add.next ≡ c.args.at + 1 = omega (arith, c.in-Some-checked_add.ensures.1) in
    rw c.in-Some-course.is
    (turned_to c.args.body.now c.args.at w there c.in-Some-checked_add.next c.in-Some-course.course next c.first_turn.ensures.does)
