-- SPDX-License-Identifier: Apache-2.0
use Rattle.mexec.proofs.ExecLaws.{map, drop, arg_tree, source_args, source_position, position_of, arith, runs_wanting, runs_within, within_listing}
use Rattle.mexec.proofs.ExecLaws.{falls_one_more, falls_within}
use Rattle.mexec.proofs.arguments.enter_argument.Goals as goal

pub returns-in_err-leave-clause-does : goal.returns-in_err-leave-clause-does
returns-in_err-leave-clause-does g c = runs_wanting _ _ c.from_residual.ensures

pub returns-in-Lines-clause-does : goal.returns-in-Lines-clause-does
returns-in-Lines-clause-does g c =
    let s = c.args.source in
    let does = rw (c.position-position.ensures, c.in_ok-leave.ensures.frames) at c.doing.ensures.does in
    rw c.in-Lines.is (within_listing (λ s n h. h) (position_of (source_position s)) (map arg_tree (drop c.args.argument (source_args s))) (runs_within does))

pub returns-in-Text-clause-does : goal.returns-in-Text-clause-does
returns-in-Text-clause-does g c =
    let s = c.args.source in
    let does = rw (c.position-position.ensures, c.in_ok-leave.ensures.frames) at c.executing.ensures.does in
    rw c.in-Text.is (within_listing (λ s n h. h) (position_of (source_position s)) (map arg_tree (drop c.args.argument (source_args s))) (runs_within does))

pub returns-in-Indirect-clause-does : goal.returns-in-Indirect-clause-does
returns-in-Indirect-clause-does g c =
    let s = c.args.source in
    let does = rw (c.position-position.ensures, c.in_ok-leave.ensures.frames) at c.giving.ensures.does in
    rw c.in-Indirect.is (within_listing (λ s n h. h) (position_of (source_position s)) (map arg_tree (drop c.args.argument (source_args s))) does)

pub doing-requires : goal.doing-requires
doing-requires g c = rw c.in-Lines.is at c.requires

pub executing-requires : goal.executing-requires
executing-requires g c = rw c.in-Text.is at c.requires

pub giving-requires : goal.giving-requires
giving-requires g c = rw c.in-Indirect.is at c.requires

pub resuming-requires : goal.resuming-requires
resuming-requires g c = rw c.in-Paused.is at c.requires

pub returns-in-Paused-clause-does : goal.returns-in-Paused-clause-does
returns-in-Paused-clause-does g c =
    let s = c.args.source in
    let does = rw c.in_ok-leave.ensures.frames at c.resuming.ensures.does in
    rw c.in-Paused.is (within_listing (λ s n h. omega (arith, h)) (position_of (source_position s)) (map arg_tree (drop c.args.argument (source_args s))) does)

pub returns-in-Lines-clause-falls : goal.returns-in-Lines-clause-falls
returns-in-Lines-clause-falls g c =
    let most = c.in_ok-leave.ensures.most in
    rw c.in-Lines.is (falls_one_more _ _ _ c.doing.result (omega (arith, most)) c.doing.ensures.falls)

pub returns-in-Text-clause-falls : goal.returns-in-Text-clause-falls
returns-in-Text-clause-falls g c =
    let most = c.in_ok-leave.ensures.most in
    rw c.in-Text.is (falls_one_more _ _ _ c.executing.result (omega (arith, most)) c.executing.ensures.falls)

pub returns-in-Indirect-clause-falls : goal.returns-in-Indirect-clause-falls
returns-in-Indirect-clause-falls g c =
    let most = c.in_ok-leave.ensures.most in
    rw c.in-Indirect.is (falls_one_more _ _ _ c.giving.result (omega (arith, most)) c.giving.ensures.falls)

pub returns-in-Paused-clause-falls : goal.returns-in-Paused-clause-falls
returns-in-Paused-clause-falls g c =
    let most = c.in_ok-leave.ensures.most in
    rw c.in-Paused.is (falls_within _ _ _ c.resuming.result (omega (arith, most)) c.resuming.ensures.falls)
