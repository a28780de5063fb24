-- SPDX-License-Identifier: Apache-2.0
use Rattle.std.specs.Prelude.{Some}
use Rattle.mexec.proofs.ExecLaws.{suc, refl, ap, sym, ◌∙◌, give, stops, context, arg_tree, over, start_of, completion_of, position_of}
use Rattle.mexec.proofs.ExecLaws.{at_as, at_then, at_stopped, at_gives, at_wanting}
use Rattle.mexec.proofs.ExecLaws.{started_with, progress_at, pause_stops}
use Rattle.mprogram.specs.Wholes.{of_argument, ending_of}
use Rattle.mexec.specs.Arguments.{into_pause}
use Rattle.mexec.specs.Programs.{pause_of}
use Rattle.mexec.specs.declared.completion.Progress.TheVariants as progress
use Rattle.mexec.proofs.arguments.program_begun.Goals as goal

pub returns-in_err-pause-clause-does : goal.returns-in_err-pause-clause-does
returns-in_err-pause-clause-does g c =
    let t = arg_tree c.args.arg.now in
    let does = rw c.new.ensures.items at c.in_err-pause.ensures in
    at_as (λ a n. started_with (context a (suc n) (position_of c.args.position.now)) t c.requires.calls) (at_stopped (λ a n r. give (progress_at (ending_of (of_argument t)) r)) does c.from_residual.ensures)

pub returns-in-Over-clause-does : goal.returns-in-Over-clause-does
returns-in-Over-clause-does g c =
    let t = arg_tree c.args.arg.now in
    let does = rw (c.new.ensures.items, c.in-Over.is) at c.in_ok-pause.ensures in
    at_as (λ a n. started_with (context a (suc n) (position_of c.args.position.now)) t c.requires.calls)
    (at_then (λ a n r. give (progress_at (ending_of (of_argument t)) r)) does (at_gives (over (completion_of c.in-Over.completion)) start_of (progress.Over c.in-Over.completion) refl))

pub returns-in_err-one_spent-in_default-clause-does : goal.returns-in_err-one_spent-in_default-clause-does
returns-in_err-one_spent-in_default-clause-does g c =
    let t = arg_tree c.args.arg.now in
    let k = ending_of (of_argument t) in
    let does = rw c.new.ensures.items at c.in_ok-pause.ensures in
    let wants = rw c.in_err-one_spent-in_default.ensures.wants at c.from_residual-in_err-one_spent-in_default.ensures in
    at_as (λ a n. started_with (context a (suc n) (position_of c.args.position.now)) t c.requires.calls)
    (at_then (λ a n r. give (progress_at k r)) does
    (at_wanting (λ a n. give (progress_at k (pause_of (of_argument t) c.in_ok-pause.pause))) start_of _ wants))

pub returns-in_err-boxed-in_default-clause-does : goal.returns-in_err-boxed-in_default-clause-does
returns-in_err-boxed-in_default-clause-does g c =
    let t = arg_tree c.args.arg.now in
    let k = ending_of (of_argument t) in
    let does = rw c.new.ensures.items at c.in_ok-pause.ensures in
    at_as (λ a n. started_with (context a (suc n) (position_of c.args.position.now)) t c.requires.calls)
    (at_then (λ a n r. give (progress_at k r)) does
    (at_wanting (λ a n. give (progress_at k (pause_of (of_argument t) c.in_ok-pause.pause))) start_of _ c.from_residual-in_err-boxed-in_default.ensures))

pub returns-in_ok-boxed-in_default-clause-does : goal.returns-in_ok-boxed-in_default-clause-does
returns-in_ok-boxed-in_default-clause-does g c =
    let t = arg_tree c.args.arg.now in
    let k = ending_of (of_argument t) in
    let w = of_argument t in
    let does = rw c.new.ensures.items at c.in_ok-pause.ensures in
    let boxed = ap (λ r. stops (into_pause (ending_of (of_argument (arg_tree r.arg.now))) (pause_of (of_argument (arg_tree r.arg.now)) r.pause))) c.in_ok-boxed-in_default.ensures.ok in
    at_as (λ a n. started_with (context a (suc n) (position_of c.args.position.now)) t c.requires.calls)
    (at_then (λ a n r. give (progress_at k r)) does
    (at_gives _ start_of _ (boxed ∙ sym (pause_stops k w c.in_ok-pause.pause c.in_default.not-Over))))

pub returns-in_ok-boxed-in_default-clause-enters : goal.returns-in_ok-boxed-in_default-clause-enters
returns-in_ok-boxed-in_default-clause-enters g c = λ args at there. there ∙ ap (λ r. Some r.arg.now) (sym c.in_ok-boxed-in_default.ensures.ok)

pub returns-in_ok-boxed-in_default-clause-spent : goal.returns-in_ok-boxed-in_default-clause-spent
returns-in_ok-boxed-in_default-clause-spent g c = c.in_ok-one_spent-in_default.ensures.spent
