-- SPDX-License-Identifier: Apache-2.0
use Rattle.mexec.proofs.ExecLaws.{map, drop, context, arg_tree, source_args, source_position}
use Rattle.mexec.proofs.ExecLaws.{position_of, args_started, args_left, enters_fits, falls_within, further_if, further_then, further_stopped, runs_as}
use Rattle.mexec.proofs.ExecLaws.{runs_completion, arguments_is, rest_stepped, source_stepped, source_uncalled, arith}
use Rattle.std.proofs.lemmas.Bool.{ltb-false}
use Rattle.mgrammar.specs.ProgramsIn.{in_steps_arg}
use Rattle.mexec.specs.Arguments.{Enters}
use Rattle.mexec.proofs.arguments.arguments.Goals as goal

pub returns-in_err-begun-clause-does : goal.returns-in_err-begun-clause-does
returns-in_err-begun-clause-does g c =
    let s = c.args.source in
    let does = rw (c.position.ensures, c.all.ensures) at c.in_err-begun.ensures.does in
    runs_as (λ a n. arguments_is a n (position_of (source_position s)) (map arg_tree (drop c.args.from (source_args s)))
    (rest_stepped in_steps_arg arg_tree (source_args s) c.args.from (source_stepped s)))
    (further_stopped (λ a n. args_started (context a n (position_of (source_position s))) (map arg_tree (drop c.args.from (source_args s))))
    (λ a n w. args_left (context a n (position_of (source_position s))) w.0 w.1) does c.from_residual.ensures)

pub returns-in-Over-clause-does : goal.returns-in-Over-clause-does
returns-in-Over-clause-does g c =
    let s = c.args.source in
    let does = rw (c.position.ensures, c.all.ensures, c.in-Over.is) at c.in_ok-begun.ensures.does in
    runs_as (λ a n. arguments_is a n (position_of (source_position s)) (map arg_tree (drop c.args.from (source_args s)))
    (rest_stepped in_steps_arg arg_tree (source_args s) c.args.from (source_stepped s)))
    (further_then (λ a n. args_started (context a n (position_of (source_position s))) (map arg_tree (drop c.args.from (source_args s))))
    (λ a n w. args_left (context a n (position_of (source_position s))) w.0 w.1) does (runs_completion c.in-Over.completion))

pub returns-in-Stops-clause-does : goal.returns-in-Stops-clause-does
returns-in-Stops-clause-does g c =
    let s = c.args.source in
    let does = rw (c.position.ensures, c.all.ensures, c.in-Stops.is) at c.in_ok-begun.ensures.does in
    let ahead = rw c.in-Stops.is at c.in_ok-begun.ensures.ahead in
    runs_as (λ a n. arguments_is a n (position_of (source_position s)) (map arg_tree (drop c.args.from (source_args s)))
    (rest_stepped in_steps_arg arg_tree (source_args s) c.args.from (source_stepped s)))
    (further_if (λ s n h. h) (λ a n. args_started (context a n (position_of (source_position s))) (map arg_tree (drop c.args.from (source_args s))))
    (λ a n w. args_left (context a n (position_of (source_position s))) w.0 w.1) {more = Enters c.in-Stops.entrance} does (λ n less. enters_fits c.in-Stops.entrance _ _ n ahead less)
    c.enter_argument.ensures.does)

pub returns-in-Stops-clause-falls : goal.returns-in-Stops-clause-falls
returns-in-Stops-clause-falls g c =
    let ahead = rw c.in-Stops.is at c.in_ok-begun.ensures.ahead in
    falls_within _ _ _ c.enter_argument.result (omega (arith, ahead)) c.enter_argument.ensures.falls

pub arguments_begun-requires-clause-plain : goal.arguments_begun-requires-clause-plain
arguments_begun-requires-clause-plain g c = λ h.
    let few = ltb-false 0 c.since-may_call.result h in
    let since = c.since-may_call.ensures in
    rw c.all.ensures (source_uncalled c.args.source (omega (arith, few, since)))

pub arguments_begun-requires-clause-stepped : goal.arguments_begun-requires-clause-stepped
arguments_begun-requires-clause-stepped g c = rw c.all.ensures (source_stepped c.args.source)

pub enter_argument-requires : goal.enter_argument-requires
enter_argument-requires g c = rw (c.all.ensures, c.in-Stops.is) at c.in_ok-begun.ensures.enters
