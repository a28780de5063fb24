-- SPDX-License-Identifier: Apache-2.0
use Rattle.mexec.proofs.ExecLaws.{◌≡◌, sym, drop, true, depth_of, position_of, context, runs_as, arith, further_if, further_ended}
use Rattle.std.specs.Prelude.{false}
use Rattle.mmeaning.specs.Frames.{resumed}
use Rattle.mmeaning.specs.Programs.{begun}
use Rattle.mmeaning.proofs.ProgramFrames.{programs_pause}
use Rattle.mprogram.specs.Views.{whole_view}
use Rattle.mprogram.specs.Wholes.{steps_of, ending_of}
use Rattle.mcommand.specs.Steps.{items_view}
use Rattle.mexec.specs.Places.{place_position}
use Rattle.mexec.proofs.programs.carried.Goals as goal

pub returns-in_err-pause-clause-does : goal.returns-in_err-pause-clause-does
returns-in_err-pause-clause-does g c =
    let whole = rw c.in-Some.is at c.whole.ensures in
    let w = whole_view c.in-Some.whole in
    let p = position_of (place_position c.args.place) in
    let does = rw c.position.ensures at c.in_err-pause.ensures in
    rw (sym whole)
    (runs_as (λ a n. programs_pause a n p (depth_of c.args.depth) (drop c.args.from (steps_of w)) (ending_of w) (items_view c.args.items.items))
    (further_ended (λ s n h. omega (arith, h))
    (λ a n. begun (context a n p) (depth_of c.args.depth) (drop c.args.from (steps_of w)) (ending_of w) (items_view c.args.items.items))
    (λ a n. resumed a n p (ending_of w)) does c.from_residual.ensures))

pub returns-clause-does : goal.returns-clause-does
returns-clause-does g c =
    let whole = rw c.in-Some.is at c.whole.ensures in
    let w = whole_view c.in-Some.whole in
    let p = position_of (place_position c.args.place) in
    let does = rw c.position.ensures at c.in_ok-pause.ensures in
    rw (sym whole)
    (runs_as (λ a n. programs_pause a n p (depth_of c.args.depth) (drop c.args.from (steps_of w)) (ending_of w) (items_view c.args.items.items))
    (further_if (λ s n h. omega (arith, h))
    (λ a n. begun (context a n p) (depth_of c.args.depth) (drop c.args.from (steps_of w)) (ending_of w) (items_view c.args.items.items))
    (λ a n. resumed a n p (ending_of w)) does (λ n h. let few = does.keeps.eval.fewer in omega (arith, h, few)) (c.resume.ensures.does w (sym whole))))

pub returns-in_default-clause-does : goal.returns-in_default-clause-does
returns-in_default-clause-does g c =
    let none = rw c.in_default.is at c.whole.ensures in
    let there = rw (sym none) at c.requires in
    absurd (let clash : false ≡ true = there in cc)
