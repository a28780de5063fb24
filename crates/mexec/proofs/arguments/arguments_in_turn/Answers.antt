-- SPDX-License-Identifier: Apache-2.0
use Rattle.mexec.proofs.ExecLaws.{suc, ◌+◌, [], map, drop, refl, arith, none_left, context, arg_tree, over, stops, entrance_of, args_started, begun_of}
use Rattle.mexec.proofs.ExecLaws.{completion_of, position_of, at_gives, at_as, argument_begins, argument_stopped, passes_next, one_uncalled, one_stepped}
use Rattle.mexec.proofs.ExecLaws.{item_there}
use Rattle.mgrammar.specs.CallsIn.{has_call_arg}
use Rattle.mgrammar.specs.ProgramsIn.{in_steps_arg}
use Rattle.mmeaning.specs.LineMeaning as meaning
use Rattle.mexec.specs.declared.completion.Progress.TheVariants as progress
use Rattle.mexec.specs.declared.completion.Completion.TheVariants as completion
use Rattle.mexec.proofs.arguments.arguments_in_turn.Goals as goal

pub loop-at-init : goal.loop-at-init
loop-at-init g c = record { fewer = omega arith; leads = λ r p k. k }

pub returns-in_err-completion-clause-does : goal.returns-in_err-completion-clause-does
returns-in_err-completion-clause-does g c =
    c.loop-at.invariant.leads _ _ (argument_stopped (position_of c.args.position.now) c.args.args.now c.loop-at.at c.index-args-at.result c.loop-at-test.true c.index-args-at.is c.in_err-completion.ensures.does c.from_residual.ensures)

pub loop-at-preserved : goal.loop-at-preserved
loop-at-preserved g c =
    let does = rw (c.in-Over.is, c.in-GoOn.is) at c.in_ok-completion.ensures.does in
    let fewer = c.in_ok-completion.ensures.does.keeps.eval.fewer in
    record {
      fewer = omega (arith, fewer, c.loop-at.invariant.fewer);
      leads = λ r q k.
          c.loop-at.invariant.leads r q (argument_begins (position_of c.args.position.now) c.args.args.now c.loop-at.at c.index-args-at.result c.loop-at-test.true c.index-args-at.is does k);
    }

pub returns-clause-does : goal.returns-clause-does
returns-clause-does g c =
    let leads = rw (none_left c.loop-at.at c.args.args.now c.loop-at-test.false) at c.loop-at.invariant.leads in
    leads _ _ (at_gives (over meaning.Go_on, []) (begun_of c.args.args.now) (progress.Over completion.GoOn, c.loop-at.at) (rw (none_left c.loop-at.at c.args.args.now c.loop-at-test.false) refl))

pub returns-in_default-clause-does : goal.returns-in_default-clause-does
returns-in_default-clause-does g c =
    let all = c.args.args.now in
    let p = position_of c.args.position.now in
    let behind = map arg_tree (drop (c.loop-at.at + 1) all) in
    let s = c.in-Over.completion in
    let does = rw c.in-Over.is at c.in_ok-completion.ensures.does in
    c.loop-at.invariant.leads _ _
    (argument_begins p all c.loop-at.at c.index-args-at.result c.loop-at-test.true c.index-args-at.is does
    (at_as (λ a n. passes_next s behind (args_started (context a (suc n) p) behind) c.in_default.not-GoOn) (at_gives (over (completion_of s), behind) (begun_of all) (progress.Over s, c.loop-at.at + 1) refl)))

pub returns-in-Stops-clause-does : goal.returns-in-Stops-clause-does
returns-in-Stops-clause-does g c =
    let all = c.args.args.now in
    let e = c.in-Stops.entrance in
    let does = rw c.in-Stops.is at c.in_ok-completion.ensures.does in
    c.loop-at.invariant.leads _ _
    (argument_begins (position_of c.args.position.now) all c.loop-at.at c.index-args-at.result c.loop-at-test.true c.index-args-at.is does
    (at_gives (stops (entrance_of e), map arg_tree (drop (c.loop-at.at + 1) all)) (begun_of all) (progress.Stops e, c.loop-at.at + 1) refl))

pub returns-in-Stops-clause-enters : goal.returns-in-Stops-clause-enters
returns-in-Stops-clause-enters g c =
    let there = item_there c.args.args.now c.loop-at.at c.index-args-at.result c.loop-at-test.true c.index-args-at.is in
    rw c.in-Stops.is at (c.in_ok-completion.ensures.enters c.args.args.now (c.loop-at.at + 1) there)

pub argument_begun-requires-clause-plain : goal.argument_begun-requires-clause-plain
argument_begun-requires-clause-plain g c =
    λ h. one_uncalled has_call_arg arg_tree c.args.args.now c.loop-at.at c.index-args-at.result c.loop-at-test.true c.index-args-at.is (c.requires.plain h)

pub argument_begun-requires-clause-stepped : goal.argument_begun-requires-clause-stepped
argument_begun-requires-clause-stepped g c =
    one_stepped in_steps_arg arg_tree c.args.args.now c.loop-at.at c.index-args-at.result c.loop-at-test.true c.index-args-at.is c.requires.stepped

pub returns-in-Stops-clause-ahead : goal.returns-in-Stops-clause-ahead
returns-in-Stops-clause-ahead g c =
    let before = c.loop-at.invariant.fewer in
    let ahead = rw c.in-Stops.is at c.in_ok-completion.ensures.ahead in
    omega (arith, before, ahead)
