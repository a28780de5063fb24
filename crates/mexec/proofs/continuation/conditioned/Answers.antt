-- SPDX-License-Identifier: Apache-2.0
use Rattle.mexec.proofs.ExecLaws.{◌<◌, suc, [], position_of, rest_tree, runs_wanting, runs_as, runs_completion, frame_below, stack_push, size_push}
use Rattle.mexec.proofs.ExecLaws.{condition_there, falls_within, arith, context, further_if, further_ended}
use Rattle.mmeaning.specs.Frames.{Conditions, resumed}
use Rattle.mmeaning.specs.Programs.{begun}
use Rattle.mprogram.specs.Wholes.{steps_of, ending_of}
use Rattle.mexec.specs.Frames.{command_in, spaced_before}
use Rattle.mexec.proofs.ConditionRuns.{condition_pauses, condition_whole}
use Rattle.mexec.proofs.continuation.conditioned.Goals as goal

pub returns-in_err-copy-clause-does : goal.returns-in_err-copy-clause-does
returns-in_err-copy-clause-does g c = runs_wanting _ _ c.from_residual.ensures

pub returns-in_err-push-clause-does : goal.returns-in_err-push-clause-does
returns-in_err-push-clause-does g c = runs_wanting _ _ c.from_residual-in_err-push.ensures

pub resume-requires : goal.resume-requires
resume-requires g c = condition_there (spaced_before c.args.behind.now.line.value c.args.behind.now.at) c.requires.calls

pub returns-in_err-pause-clause-does : goal.returns-in_err-pause-clause-does
returns-in_err-pause-clause-does g c =
    let behind = c.args.behind.now in
    let o = spaced_before behind.line.value behind.at in
    let p = position_of behind.position.value in
    let w = condition_whole o c.requires.calls in
    runs_as (λ a n. condition_pauses a n p (rest_tree behind) o w.0 w.1 c.requires.calls c.requires.stepped)
    (frame_below (Conditions p (command_in o) (rest_tree behind)) (λ s n h. h)
    (further_ended (λ s n h. h) (λ a n. begun (context a n p) p.depth (steps_of w.0) (ending_of w.0) []) (λ a n. resumed a n p (ending_of w.0))
    (c.in_err-pause.ensures w.0 w.1) c.from_residual-in_err-pause.ensures))

pub returns-in-Over-clause-does : goal.returns-in-Over-clause-does
returns-in-Over-clause-does g c =
    let behind = c.args.behind.now in
    let o = spaced_before behind.line.value behind.at in
    let p = position_of behind.position.value in
    let w = condition_whole o c.requires.calls in
    let does = rw c.in-Over.is at (c.in_ok-pause.ensures w.0 w.1) in
    let few = does.keeps.eval.fewer in
    rw (c.in_ok-push.ensures.items, stack_push, c.in_ok-copy.ensures.position, c.in_ok-copy.ensures.line, c.in_ok-copy.ensures.at)
    (runs_as (λ a n. condition_pauses a n p (rest_tree behind) o w.0 w.1 c.requires.calls c.requires.stepped)
    (frame_below (Conditions p (command_in o) (rest_tree behind)) (λ s n h. h)
    (further_if (λ s n h. h) (λ a n. begun (context a n p) p.depth (steps_of w.0) (ending_of w.0) [])
    (λ a n. resumed a n p (ending_of w.0)) {more = λ s n. s < n}
    does (λ n h. omega (arith, h, few)) (runs_completion c.in-Over.completion))))

pub returns-in-Over-clause-falls : goal.returns-in-Over-clause-falls
returns-in-Over-clause-falls g c =
    let w = condition_whole (spaced_before c.args.behind.now.line.value c.args.behind.now.at) c.requires.calls in
    let few = (c.in_ok-pause.ensures w.0 w.1).keeps.eval.fewer in
    rw (c.in_ok-push.ensures.items, size_push) (omega (arith, few))

pub returns-in_err-one_spent-in_default-clause-does : goal.returns-in_err-one_spent-in_default-clause-does
returns-in_err-one_spent-in_default-clause-does g c =
    let behind = c.args.behind.now in
    let o = spaced_before behind.line.value behind.at in
    let p = position_of behind.position.value in
    let w = condition_whole o c.requires.calls in
    let does = c.in_ok-pause.ensures w.0 w.1 in
    let few = does.keeps.eval.fewer in
    let wants = rw c.in_err-one_spent-in_default.ensures.wants at c.from_residual-in_err-one_spent-in_default.ensures in
    runs_as (λ a n. condition_pauses a n p (rest_tree behind) o w.0 w.1 c.requires.calls c.requires.stepped)
    (frame_below (Conditions p (command_in o) (rest_tree behind)) (λ s n h. h)
    (further_if (λ s n h. h) (λ a n. begun (context a n p) p.depth (steps_of w.0) (ending_of w.0) [])
    (λ a n. resumed a n p (ending_of w.0)) {more = λ s n. s < n}
    does (λ n h. omega (arith, h, few)) (runs_wanting _ _ wants)))

pub returns-in_ok-one_spent-in_default-clause-does : goal.returns-in_ok-one_spent-in_default-clause-does
returns-in_ok-one_spent-in_default-clause-does g c =
    let behind = c.args.behind.now in
    let o = spaced_before behind.line.value behind.at in
    let p = position_of behind.position.value in
    let w = condition_whole o c.requires.calls in
    let less = c.in_ok-one_spent-in_default.ensures.spent in
    let pushed = rw (c.in_ok-push.ensures.items, stack_push) at (c.resume.ensures.does w.0 w.1) in
    let goes = rw (c.in_ok-copy.ensures.position, c.in_ok-copy.ensures.line, c.in_ok-copy.ensures.at) at pushed in
    runs_as (λ a n. condition_pauses a n p (rest_tree behind) o w.0 w.1 c.requires.calls c.requires.stepped)
    (frame_below (Conditions p (command_in o) (rest_tree behind)) (λ s n h. h)
    (further_if (λ s n h. h) (λ a n. begun (context a n p) p.depth (steps_of w.0) (ending_of w.0) [])
    (λ a n. resumed a n p (ending_of w.0)) {more = λ s n. suc s < n}
    (c.in_ok-pause.ensures w.0 w.1) (λ n h. omega (arith, h, less)) goes))

pub returns-in_ok-one_spent-in_default-clause-falls : goal.returns-in_ok-one_spent-in_default-clause-falls
returns-in_ok-one_spent-in_default-clause-falls g c =
    let less = c.in_ok-one_spent-in_default.ensures.spent in
    let here = rw (c.in_ok-push.ensures.items, size_push) at c.resume.ensures.falls in
    falls_within _ _ _ c.resume.result (omega (arith, less)) here
