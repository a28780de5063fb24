-- SPDX-License-Identifier: Apache-2.0
use Rattle.mexec.proofs.ExecLaws.{context, position_of, closing_of, runs_as, runs_then, runs_stopped, runs_done, lines_are, then_closed}
use Rattle.mexec.proofs.levels.lines_next.Goals as goal

pub returns-in_err-next_line-clause-does : goal.returns-in_err-next_line-clause-does
returns-in_err-next_line-clause-does g c =
    let p = position_of c.args.position.now in
    let closing = closing_of c.args.closing in
    runs_as (λ a n. lines_are a n p closing) (runs_stopped (λ a n. then_closed (context a n p) closing) c.in_err-next_line.ensures.does c.from_residual.ensures)

pub returns-in-None-clause-does : goal.returns-in-None-clause-does
returns-in-None-clause-does g c =
    let p = position_of c.args.position.now in
    let closing = closing_of c.args.closing in
    let found = rw c.in-None.is at c.in_ok-next_line.ensures.does in
    runs_as (λ a n. lines_are a n p closing) (runs_then (λ a n. then_closed (context a n p) closing) found (runs_done c.closed.result c.closed.ensures))

pub returns-in-Some-clause-does : goal.returns-in-Some-clause-does
returns-in-Some-clause-does g c =
    let p = position_of c.args.position.now in
    let closing = closing_of c.args.closing in
    let found = rw c.in-Some.is at c.in_ok-next_line.ensures.does in
    runs_as (λ a n. lines_are a n p closing) (runs_then (λ a n. then_closed (context a n p) closing) found c.reach_line.ensures.does)
