-- SPDX-License-Identifier: Apache-2.0
use Rattle.mexec.proofs.ExecLaws.{arith, position_of, runs_completion, runs_wanting, falls_within, front_runs, front_stops, front_stopped}
use Rattle.mexec.proofs.continuation.next_command.Goals as goal

pub returns-in_err-outcome-clause-does : goal.returns-in_err-outcome-clause-does
returns-in_err-outcome-clause-does g c =
    let r = c.args.rest in
    let does = rw (c.deref.ensures, c.deref-2.ensures) at c.in_err-outcome.ensures.does in
    front_stopped (position_of r.position.value) r.line.value r.played r.at does c.from_residual.ensures

pub returns-in-Over-clause-does : goal.returns-in-Over-clause-does
returns-in-Over-clause-does g c =
    let r = c.args.rest in
    let does = rw (c.deref.ensures, c.deref-2.ensures, c.in-Over.is) at c.in_ok-outcome.ensures.does in
    front_runs (position_of r.position.value) r.line.value r.played r.at does (runs_completion c.in-Over.completion)

pub returns-in_err-behind-in-Stops-clause-does : goal.returns-in_err-behind-in-Stops-clause-does
returns-in_err-behind-in-Stops-clause-does g c =
    let r = c.args.rest in
    let does = rw (c.deref.ensures, c.deref-2.ensures) at c.in_ok-outcome.ensures.does in
    front_runs (position_of r.position.value) r.line.value r.played r.at does (runs_wanting _ _ c.from_residual-in_err-behind-in-Stops.ensures)

pub go_on-requires : goal.go_on-requires
go_on-requires g c =
    let stops = rw (c.deref-2.ensures, c.in-Stops.is) at c.in_ok-outcome.ensures.stops in
    rw (c.in_ok-behind-in-Stops.ensures.line, c.in_ok-behind-in-Stops.ensures.at) stops

pub returns-clause-falls : goal.returns-clause-falls
returns-clause-falls g c =
    let less = rw c.in-Stops.is at c.in_ok-outcome.ensures.spent in
    falls_within _ _ _ c.go_on.result (omega (arith, less)) c.go_on.ensures.falls

pub returns-clause-does : goal.returns-clause-does
returns-clause-does g c =
    let r = c.args.rest in
    let does = rw (c.deref.ensures, c.deref-2.ensures, c.in-Stops.is) at c.in_ok-outcome.ensures.does in
    let goes = rw (c.in_ok-behind-in-Stops.ensures.position, c.in_ok-behind-in-Stops.ensures.line, c.in_ok-behind-in-Stops.ensures.at) at c.go_on.ensures.does in
    let spent = rw c.in-Stops.is at c.in_ok-outcome.ensures.spent in
    front_stops (position_of r.position.value) r.line.value r.played r.at c.in-Stops.stop does spent goes

pub front-requires : goal.front-requires
front-requires g c = rw c.deref-2.ensures c.args.rest.played
