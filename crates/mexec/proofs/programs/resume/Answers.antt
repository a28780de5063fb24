-- SPDX-License-Identifier: Apache-2.0
use Rattle.mexec.proofs.ExecLaws.{runs_completion, runs_further, within_entered}
use Rattle.mexec.proofs.programs.resume.Goals as goal

pub returns-in-Over-clause-does : goal.returns-in-Over-clause-does
returns-in-Over-clause-does g c = λ w whole. rw c.in-Over.is (runs_completion c.in-Over.completion)

pub returns-in-Calls-clause-does : goal.returns-in-Calls-clause-does
returns-in-Calls-clause-does g c = λ w whole. rw c.in-Calls.is (c.calling.ensures.does w whole)

pub returns-in-Enters-clause-does : goal.returns-in-Enters-clause-does
returns-in-Enters-clause-does g c = λ w whole.
    let does = rw c.position.ensures at c.entering_lines.ensures.does in
    rw c.in-Enters.is (runs_further does)

pub returns-in-Executes-clause-does : goal.returns-in-Executes-clause-does
returns-in-Executes-clause-does g c = λ w whole.
    let does = rw c.position-in-Executes.ensures at c.executing_value.ensures.does in
    rw c.in-Executes.is (runs_further (within_entered does))

pub returns-in-Lists-clause-does : goal.returns-in-Lists-clause-does
returns-in-Lists-clause-does g c = λ w whole.
    let does = rw c.position-in-Lists.ensures at c.giving_value.ensures.does in
    rw c.in-Lists.is does

pub returns-in-Turns-clause-does : goal.returns-in-Turns-clause-does
returns-in-Turns-clause-does g c = λ w whole. rw c.in-Turns.is (runs_further (c.turning.ensures.does w whole))
