-- SPDX-License-Identifier: Apache-2.0
use Rattle.mexec.proofs.ExecLaws.{true, arith, map, context, arg_tree, keyword_tree, position_of, rest_tree, runs_as}
use Rattle.mexec.proofs.ExecLaws.{runs_completion, further_if, further_then, further_stopped, stop_fits, effect_started, falls_within, before_stepped, command_there, effect_is}
use Rattle.std.specs.Prelude.{false, ◌≡◌}
use Rattle.mexec.specs.Fronts.{StopFits, finishes}
use Rattle.mexec.specs.Frames.{spaced_before}
use Rattle.mexec.proofs.continuation.effected.Goals as goal

pub effect-requires-clause-plain : goal.effect-requires-clause-plain
effect-requires-clause-plain g c = λ h. absurd (let clash : true ≡ false = h in cc)

pub effect-requires-clause-stepped : goal.effect-requires-clause-stepped
effect-requires-clause-stepped g c =
    let behind = c.args.behind.now in
    let there = command_there (spaced_before behind.line.value behind.at) c.args.command.now c.requires in
    let stepped = rw there.1 at (before_stepped behind.line.value behind.at behind.played) in
    rw c.deref-2.ensures.value stepped

pub returns-in_err-outcome-clause-does : goal.returns-in_err-outcome-clause-does
returns-in_err-outcome-clause-does g c =
    let behind = c.args.behind.now in
    let command = c.args.command.now in
    let p = position_of behind.position.value in
    let there = command_there (spaced_before behind.line.value behind.at) command c.requires in
    let stepped = rw there.1 at (before_stepped behind.line.value behind.at behind.played) in
    let does = rw (c.deref.ensures, c.deref-2.ensures.value) at c.in_err-outcome.ensures.does in
    rw there.0
    (runs_as (λ a n. effect_is a n p (keyword_tree command.keyword) (map arg_tree command.args.items) (rest_tree behind) stepped)
    (further_stopped (λ a n. effect_started (context a n p) (keyword_tree command.keyword) (map arg_tree command.args.items))
    (λ a n. finishes (context a n p) (rest_tree behind)) does c.from_residual.ensures))

pub returns-in-Over-clause-does : goal.returns-in-Over-clause-does
returns-in-Over-clause-does g c =
    let behind = c.args.behind.now in
    let command = c.args.command.now in
    let p = position_of behind.position.value in
    let there = command_there (spaced_before behind.line.value behind.at) command c.requires in
    let stepped = rw there.1 at (before_stepped behind.line.value behind.at behind.played) in
    let does = rw (c.deref.ensures, c.deref-2.ensures.value, c.in-Over.is) at c.in_ok-outcome.ensures.does in
    rw there.0
    (runs_as (λ a n. effect_is a n p (keyword_tree command.keyword) (map arg_tree command.args.items) (rest_tree behind) stepped)
    (further_then (λ a n. effect_started (context a n p) (keyword_tree command.keyword) (map arg_tree command.args.items))
    (λ a n. finishes (context a n p) (rest_tree behind)) does (runs_completion c.in-Over.completion)))

pub stopped_at-requires : goal.stopped_at-requires
stopped_at-requires g c =
    let behind = c.args.behind.now in
    let there = command_there (spaced_before behind.line.value behind.at) c.args.command.now c.requires in
    let stops = rw (c.deref-2.ensures.value, c.in-Stops.is) at c.in_ok-outcome.ensures.stops in
    there.2 c.in-Stops.stop stops

pub returns-in-Stops-clause-falls : goal.returns-in-Stops-clause-falls
returns-in-Stops-clause-falls g c =
    let behind = c.args.behind.now in
    let there = command_there (spaced_before behind.line.value behind.at) c.args.command.now c.requires in
    let fewer = rw c.in-Stops.is at c.in_ok-outcome.ensures.ahead in
    let stops = rw (c.deref-2.ensures.value, c.in-Stops.is) at c.in_ok-outcome.ensures.stops in
    falls_within _ _ _ c.stopped_at.result (omega (arith, fewer)) (c.stopped_at.ensures.within (rw there.1 stops))

pub returns-in-Stops-clause-does : goal.returns-in-Stops-clause-does
returns-in-Stops-clause-does g c =
    let behind = c.args.behind.now in
    let command = c.args.command.now in
    let p = position_of behind.position.value in
    let there = command_there (spaced_before behind.line.value behind.at) command c.requires in
    let stepped = rw there.1 at (before_stepped behind.line.value behind.at behind.played) in
    let does = rw (c.deref.ensures, c.deref-2.ensures.value, c.in-Stops.is) at c.in_ok-outcome.ensures.does in
    let rest = rw there.1 at c.stopped_at.ensures.does in
    let ahead = rw c.in-Stops.is at c.in_ok-outcome.ensures.ahead in
    rw there.0
    (runs_as (λ a n. effect_is a n p (keyword_tree command.keyword) (map arg_tree command.args.items) (rest_tree behind) stepped)
    (further_if (λ s n h. h) (λ a n. effect_started (context a n p) (keyword_tree command.keyword) (map arg_tree command.args.items))
    (λ a n. finishes (context a n p) (rest_tree behind)) {more = StopFits c.in-Stops.stop} does (λ n less. stop_fits c.in-Stops.stop _ _ n ahead less) rest))
