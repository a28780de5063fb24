-- SPDX-License-Identifier: Apache-2.0
use Rattle.mexec.proofs.ExecLaws.{◌+◌, ◌≤◌, length, refl, sym, arith, none_left, commands_from, position_of, runs_completion}
use Rattle.mexec.proofs.ExecLaws.{runs_wanting, falls_failed, falls_one_more, falls_within, parameter_runs, parameter_stopped, parameter_there}
use Rattle.mexec.proofs.ExecLaws.{parameter_stepped, parameter_uncalled}
use Rattle.mexec.proofs.ExecLaws.{ap, begin_turn, context, runs_as, parameter_calls, turning_from}
use Rattle.std.proofs.lemmas.Bool.{ltb-false}
use Rattle.mexec.specs.declared.completion.Completion.TheVariants as completion
use Rattle.mexec.proofs.turns.next_parameter.Goals as goal

pub loop-next-init : goal.loop-next-init
loop-next-init g c = record {
  fewer = omega arith;
  scratch = refl;
  leads = λ r fs p k. k;
}

pub parameter_begun-requires : goal.parameter_begun-requires
parameter_begun-requires g c = λ h.
    let few = ltb-false 0 c.args.body.now.line.value.since (rw c.deref.ensures at h) in
    parameter_uncalled c.args.body.now c.args.index.now c.args.parameters.now c.requires.found c.loop-next.next c.index-parameters-next.result c.loop-next-test.true c.index-parameters-next.is (omega (arith, few))

pub loop-next-preserved : goal.loop-next-preserved
loop-next-preserved g c =
    let b = c.args.body.now in
    let index = c.args.index.now in
    let ps = c.args.parameters.now in
    let k = c.loop-next.next in
    let q = c.index-parameters-next.result in
    let there = parameter_there b.line.value b.at index ps k q c.requires.found c.loop-next-test.true c.index-parameters-next.is in
    let does = rw (c.in-Turns.is, c.in-None.is) at (c.in_ok-pause.ensures _ there) in
    let before = c.loop-next.invariant.fewer in
    let here = does.keeps.eval.fewer in
    record {
      fewer = omega (arith, before, here);
      scratch = c.loop-next.invariant.scratch;
      leads = λ r fs p run.
          c.loop-next.invariant.leads r fs p
          (parameter_runs (position_of b.position.value) index (commands_from b.line.value b.at) ps k q c.loop-next-test.true c.index-parameters-next.is (parameter_stepped b index ps c.requires.found k q c.loop-next-test.true c.index-parameters-next.is) does run);
    }

pub returns-in_err-pause-clause-falls : goal.returns-in_err-pause-clause-falls
returns-in_err-pause-clause-falls g c = falls_failed _ _ c.from_residual.ensures.0

pub returns-in_err-pause-clause-does : goal.returns-in_err-pause-clause-does
returns-in_err-pause-clause-does g c =
    let b = c.args.body.now in
    let index = c.args.index.now in
    let ps = c.args.parameters.now in
    let k = c.loop-next.next in
    let q = c.index-parameters-next.result in
    let there = parameter_there b.line.value b.at index ps k q c.requires.found c.loop-next-test.true c.index-parameters-next.is in
    rw c.loop-next.invariant.scratch
    (c.loop-next.invariant.leads _ _ _
    (parameter_stopped (position_of b.position.value) index (commands_from b.line.value b.at) ps k q c.loop-next-test.true c.index-parameters-next.is (parameter_stepped b index ps c.requires.found k q c.loop-next-test.true c.index-parameters-next.is) (c.in_err-pause.ensures _ there) c.from_residual.ensures))

pub returns-in-Some-clause-falls : goal.returns-in-Some-clause-falls
returns-in-Some-clause-falls g c =
    let b = c.args.body.now in
    let index = c.args.index.now in
    let ps = c.args.parameters.now in
    let k = c.loop-next.next in
    let q = c.index-parameters-next.result in
    let there = parameter_there b.line.value b.at index ps k q c.requires.found c.loop-next-test.true c.index-parameters-next.is in
    let before = c.loop-next.invariant.fewer in
    let does = c.in_ok-pause.ensures _ there in
    let here = does.keeps.eval.fewer in
    let falls = rw c.loop-next.invariant.scratch at c.first_turn.ensures.falls in
    falls_within _ _ _ c.first_turn.result (omega (arith, before, here)) falls

pub returns-in-Some-clause-does : goal.returns-in-Some-clause-does
returns-in-Some-clause-does g c =
    let b = c.args.body.now in
    let index = c.args.index.now in
    let ps = c.args.parameters.now in
    let k = c.loop-next.next in
    let q = c.index-parameters-next.result in
    let there = parameter_there b.line.value b.at index ps k q c.requires.found c.loop-next-test.true c.index-parameters-next.is in
    let does = rw (c.in-Turns.is, c.in-Some.is) at (c.in_ok-pause.ensures _ there) in
    let first = rw c.loop-next.invariant.scratch at c.first_turn.ensures.does in
    c.loop-next.invariant.leads _ _ _
    (parameter_runs (position_of b.position.value) index (commands_from b.line.value b.at) ps k q c.loop-next-test.true c.index-parameters-next.is (parameter_stepped b index ps c.requires.found k q c.loop-next-test.true c.index-parameters-next.is) does
    (runs_as (λ a n. ap (begin_turn (context a n (position_of b.position.value))) (sym (turning_from b (k + 1) c.in-Some.course index ps c.requires.found))) first))

pub calling-requires : goal.calling-requires
calling-requires g c =
    let b = c.args.body.now in
    let index = c.args.index.now in
    let ps = c.args.parameters.now in
    let k = c.loop-next.next in
    let q = c.index-parameters-next.result in
    let there = parameter_there b.line.value b.at index ps k q c.requires.found c.loop-next-test.true c.index-parameters-next.is in
    rw there refl

pub returns-in-Calls-clause-falls : goal.returns-in-Calls-clause-falls
returns-in-Calls-clause-falls g c =
    let b = c.args.body.now in
    let index = c.args.index.now in
    let ps = c.args.parameters.now in
    let k = c.loop-next.next in
    let q = c.index-parameters-next.result in
    let there = parameter_there b.line.value b.at index ps k q c.requires.found c.loop-next-test.true c.index-parameters-next.is in
    let before = c.loop-next.invariant.fewer in
    let does = c.in_ok-pause.ensures _ there in
    let here = does.keeps.eval.fewer in
    let falls = rw c.loop-next.invariant.scratch at c.calling.ensures.falls in
    falls_one_more _ _ _ c.calling.result (omega (arith, before, here)) falls

pub returns-in-Calls-clause-does : goal.returns-in-Calls-clause-does
returns-in-Calls-clause-does g c =
    let b = c.args.body.now in
    let index = c.args.index.now in
    let ps = c.args.parameters.now in
    let k = c.loop-next.next in
    let q = c.index-parameters-next.result in
    let there = parameter_there b.line.value b.at index ps k q c.requires.found c.loop-next-test.true c.index-parameters-next.is in
    let does = rw c.in-Calls.is at (c.in_ok-pause.ensures _ there) in
    let call = rw c.loop-next.invariant.scratch at (c.calling.ensures.does _ there) in
    c.loop-next.invariant.leads _ _ _
    (parameter_calls (position_of b.position.value) index (commands_from b.line.value b.at) ps k q c.loop-next-test.true c.index-parameters-next.is (parameter_stepped b index ps c.requires.found k q c.loop-next-test.true c.index-parameters-next.is) does c.in_ok-one_spent-in-Calls.ensures.spent call)

pub returns-in_err-one_spent-in-Calls-clause-does : goal.returns-in_err-one_spent-in-Calls-clause-does
returns-in_err-one_spent-in-Calls-clause-does g c =
    let b = c.args.body.now in
    let index = c.args.index.now in
    let ps = c.args.parameters.now in
    let k = c.loop-next.next in
    let q = c.index-parameters-next.result in
    let there = parameter_there b.line.value b.at index ps k q c.requires.found c.loop-next-test.true c.index-parameters-next.is in
    c.loop-next.invariant.leads _ _ _ (parameter_runs (position_of b.position.value) index (commands_from b.line.value b.at) ps k q c.loop-next-test.true c.index-parameters-next.is (parameter_stepped b index ps c.requires.found k q c.loop-next-test.true c.index-parameters-next.is) (c.in_ok-pause.ensures _ there) (runs_wanting _ _ (rw c.in_err-one_spent-in-Calls.ensures.wants at c.from_residual-in_err-one_spent-in-Calls.ensures)))

pub returns-in_default-clause-does : goal.returns-in_default-clause-does
returns-in_default-clause-does g c =
    let b = c.args.body.now in
    let index = c.args.index.now in
    let ps = c.args.parameters.now in
    let k = c.loop-next.next in
    let q = c.index-parameters-next.result in
    let there = parameter_there b.line.value b.at index ps k q c.requires.found c.loop-next-test.true c.index-parameters-next.is in
    c.loop-next.invariant.leads _ _ _ (parameter_runs (position_of b.position.value) index (commands_from b.line.value b.at) ps k q c.loop-next-test.true c.index-parameters-next.is (parameter_stepped b index ps c.requires.found k q c.loop-next-test.true c.index-parameters-next.is) (c.in_ok-pause.ensures _ there) (runs_wanting _ _ (refl, refl)))

pub returns-clause-falls : goal.returns-clause-falls
returns-clause-falls g c =
    let before = c.loop-next.invariant.fewer in
    rw c.loop-next.invariant.scratch (omega (arith, before))

pub returns-clause-does : goal.returns-clause-does
returns-clause-does g c =
    let past : length c.args.parameters.now ≤ c.loop-next.next = let h = c.loop-next-test.false in omega (arith, h) in
    let leads = rw (none_left c.loop-next.next c.args.parameters.now past) at c.loop-next.invariant.leads in
    rw c.loop-next.invariant.scratch (leads _ _ _ (runs_completion completion.Skips))
