-- SPDX-License-Identifier: Apache-2.0
use Rattle.mexec.proofs.ExecLaws.{refl, arith, context, completion_of, position_of, turning, runs_completion, runs_wanting, runs_as, at_plain, course_runs}
use Rattle.mexec.proofs.ExecLaws.{not_gone_on, turn_charge_failed, falls_within, after_turn_is, turn_left, within_then, within_stopped, at_yielded, turn_stops}
use Rattle.mexec.proofs.ExecLaws.{turn_stopped, turn_over}
use Rattle.mexec.proofs.turns.after_course.Goals as goal

pub turns-init : goal.turns-init
turns-init g c = record {
  fewer = omega arith;
  scratch = refl;
  leads = λ r fs p k. k;
}

pub returns-in_err-body-clause-does : goal.returns-in_err-body-clause-does
returns-in_err-body-clause-does g c = runs_wanting _ _ c.from_residual.ensures

pub returns-in_err-goes_on-clause-does : goal.returns-in_err-goes_on-clause-does
returns-in_err-goes_on-clause-does g c =
    let gone = rw c.deref-in-turns.ensures at c.in_err-goes_on.ensures in
    rw c.turns.invariant.scratch (c.turns.invariant.leads _ _ _ (not_gone_on c.args.turns.value gone c.from_residual-in_err-goes_on.ensures))

pub returns-then-not-goes_on-clause-falls : goal.returns-then-not-goes_on-clause-falls
returns-then-not-goes_on-clause-falls g c =
    let before = c.turns.invariant.fewer in
    let here = c.in_ok-goes_on.ensures.keeps.eval.fewer in
    let falls = rw c.turns.invariant.scratch at c.further.ensures.falls in
    falls_within _ _ _ c.further.result (omega (arith, before, here)) falls

pub returns-then-not-goes_on-clause-does : goal.returns-then-not-goes_on-clause-does
returns-then-not-goes_on-clause-does g c =
    let gone = rw (c.deref-in-turns.ensures, c.if-not-goes_on.true) at c.in_ok-goes_on.ensures in
    let further = rw (c.into_inner.ensures, c.turns.invariant.scratch) at c.further.ensures.does in
    c.turns.invariant.leads _ _ _ (course_runs c.args.turns.value gone further)

pub returns-in_err-charge-clause-does : goal.returns-in_err-charge-clause-does
returns-in_err-charge-clause-does g c =
    let t = c.args.turns.value in
    let gone = rw (c.deref-in-turns.ensures, c.if-not-goes_on.false) at c.in_ok-goes_on.ensures in
    rw c.turns.invariant.scratch
    (c.turns.invariant.leads _ _ _
    (course_runs t gone
    (turn_charge_failed (position_of t.body.position.value) (turning t) (at_plain c.in_err-charge.ensures.does) c.from_residual-in_err-charge.ensures)))

pub returns-in_err-outcome-clause-does : goal.returns-in_err-outcome-clause-does
returns-in_err-outcome-clause-does g c =
    let gone = rw (c.deref-in-turns.ensures, c.if-not-goes_on.false) at c.in_ok-goes_on.ensures in
    let body = rw (c.deref-in-turns-2.ensures, c.deref-in-turns-3.ensures, c.in_ok-body.ensures.position, c.in_ok-body.ensures.line, c.in_ok-body.ensures.at, c.deref.ensures) at c.in_err-outcome.ensures.does in
    rw c.turns.invariant.scratch
    (c.turns.invariant.leads _ _ _
    (turn_stopped c.args.turns.value gone (at_plain c.in_ok-charge.ensures.does) c.in_ok-charge.ensures.spent body c.from_residual-in_err-outcome.ensures))

pub turns-preserved : goal.turns-preserved
turns-preserved g c =
    let before = c.turns.invariant.fewer in
    let fewer = c.in_ok-goes_on.ensures.keeps.eval.fewer in
    let spent = c.in_ok-charge.ensures.does.keeps.fewer in
    let done = c.in_ok-outcome.ensures.does.keeps.eval.fewer in
    let gone = rw (c.deref-in-turns.ensures, c.if-not-goes_on.false) at c.in_ok-goes_on.ensures in
    let body = rw (c.deref-in-turns-2.ensures, c.deref-in-turns-3.ensures, c.in_ok-body.ensures.position, c.in_ok-body.ensures.line, c.in_ok-body.ensures.at, c.deref.ensures, c.in-Over.is) at c.in_ok-outcome.ensures.does in
    let ends = rw c.in-None.is at c.in_ok-turn_ends-in-Over.ensures in
    record {
      fewer = omega (arith, before, fewer, spent, done);
      scratch = c.turns.invariant.scratch;
      leads = λ r fs p k.
          c.turns.invariant.leads r fs p
          (turn_over c.args.turns.value gone (at_plain c.in_ok-charge.ensures.does) c.in_ok-charge.ensures.spent body
          (runs_as (λ a n. after_turn_is (context a n (position_of c.args.turns.value.body.position.value)) (turning c.args.turns.value) (completion_of c.in-Over.completion))
          (within_then (λ a n. turn_left (context a n (position_of c.args.turns.value.body.position.value)) (turning c.args.turns.value)) (at_yielded ends) k)));
    }

pub returns-in-Some-clause-falls : goal.returns-in-Some-clause-falls
returns-in-Some-clause-falls g c =
    let before = c.turns.invariant.fewer in
    let gone = c.in_ok-goes_on.ensures.keeps.eval.fewer in
    let spent = c.in_ok-charge.ensures.does.keeps.fewer in
    let done = c.in_ok-outcome.ensures.does.keeps.eval.fewer in
    rw c.turns.invariant.scratch (omega (arith, before, gone, spent, done))

pub returns-in-Some-clause-does : goal.returns-in-Some-clause-does
returns-in-Some-clause-does g c =
    let t = c.args.turns.value in
    let gone = rw (c.deref-in-turns.ensures, c.if-not-goes_on.false) at c.in_ok-goes_on.ensures in
    let body = rw (c.deref-in-turns-2.ensures, c.deref-in-turns-3.ensures, c.in_ok-body.ensures.position, c.in_ok-body.ensures.line, c.in_ok-body.ensures.at, c.deref.ensures, c.in-Over.is) at c.in_ok-outcome.ensures.does in
    let ends = rw c.in-Some.is at c.in_ok-turn_ends-in-Over.ensures in
    rw c.turns.invariant.scratch
    (c.turns.invariant.leads _ _ _
    (turn_over t gone (at_plain c.in_ok-charge.ensures.does) c.in_ok-charge.ensures.spent body
    (runs_as (λ a n. after_turn_is (context a n (position_of t.body.position.value)) (turning t) (completion_of c.in-Over.completion))
    (within_then (λ a n. turn_left (context a n (position_of t.body.position.value)) (turning t)) (at_yielded ends) (runs_completion c.in-Some.completion)))))

pub returns-in_err-behind-in-Stops-clause-does : goal.returns-in_err-behind-in-Stops-clause-does
returns-in_err-behind-in-Stops-clause-does g c =
    let gone = rw (c.deref-in-turns.ensures, c.if-not-goes_on.false) at c.in_ok-goes_on.ensures in
    let body = rw (c.deref-in-turns-2.ensures, c.deref-in-turns-3.ensures, c.in_ok-body.ensures.position, c.in_ok-body.ensures.line, c.in_ok-body.ensures.at, c.deref.ensures, c.in-Stops.is) at c.in_ok-outcome.ensures.does in
    c.turns.invariant.leads _ _ _ (turn_stops c.args.turns.value gone (at_plain c.in_ok-charge.ensures.does) c.in_ok-charge.ensures.spent c.in-Stops.stop body (rw c.in-Stops.is at c.in_ok-outcome.ensures.spent) (runs_wanting _ _ c.from_residual-in_err-behind-in-Stops.ensures))

pub returns-in_err-leave_turns-in-Stops-clause-does : goal.returns-in_err-leave_turns-in-Stops-clause-does
returns-in_err-leave_turns-in-Stops-clause-does g c =
    let gone = rw (c.deref-in-turns.ensures, c.if-not-goes_on.false) at c.in_ok-goes_on.ensures in
    let body = rw (c.deref-in-turns-2.ensures, c.deref-in-turns-3.ensures, c.in_ok-body.ensures.position, c.in_ok-body.ensures.line, c.in_ok-body.ensures.at, c.deref.ensures, c.in-Stops.is) at c.in_ok-outcome.ensures.does in
    c.turns.invariant.leads _ _ _ (turn_stops c.args.turns.value gone (at_plain c.in_ok-charge.ensures.does) c.in_ok-charge.ensures.spent c.in-Stops.stop body (rw c.in-Stops.is at c.in_ok-outcome.ensures.spent) (runs_wanting _ _ c.from_residual-in_err-leave_turns-in-Stops.ensures))

pub go_on-requires : goal.go_on-requires
go_on-requires g c =
    let stops = rw (c.deref-in-turns-3.ensures, c.in-Stops.is) at c.in_ok-outcome.ensures.stops in
    rw (c.in_ok-behind-in-Stops.ensures.line, c.in_ok-behind-in-Stops.ensures.at) stops

pub returns-in-Stops-clause-does : goal.returns-in-Stops-clause-does
returns-in-Stops-clause-does g c =
    let gone = rw (c.deref-in-turns.ensures, c.if-not-goes_on.false) at c.in_ok-goes_on.ensures in
    let body = rw (c.deref-in-turns-2.ensures, c.deref-in-turns-3.ensures, c.in_ok-body.ensures.position, c.in_ok-body.ensures.line, c.in_ok-body.ensures.at, c.deref.ensures, c.in-Stops.is) at c.in_ok-outcome.ensures.does in
    let does = rw (c.in_ok-behind-in-Stops.ensures.position, c.in_ok-behind-in-Stops.ensures.line, c.in_ok-behind-in-Stops.ensures.at, c.in_ok-body.ensures.position, c.in_ok-body.ensures.line, c.deref.ensures, c.in_ok-leave_turns-in-Stops.ensures.frames, c.turns.invariant.scratch) at c.go_on.ensures.does in
    c.turns.invariant.leads _ _ _ (turn_stops c.args.turns.value gone (at_plain c.in_ok-charge.ensures.does) c.in_ok-charge.ensures.spent c.in-Stops.stop body (rw c.in-Stops.is at c.in_ok-outcome.ensures.spent) does)

pub returns-in_err-turn_ends-in-Over-clause-does : goal.returns-in_err-turn_ends-in-Over-clause-does
returns-in_err-turn_ends-in-Over-clause-does g c =
    let t = c.args.turns.value in
    let gone = rw (c.deref-in-turns.ensures, c.if-not-goes_on.false) at c.in_ok-goes_on.ensures in
    let body = rw (c.deref-in-turns-2.ensures, c.deref-in-turns-3.ensures, c.in_ok-body.ensures.position, c.in_ok-body.ensures.line, c.in_ok-body.ensures.at, c.deref.ensures, c.in-Over.is) at c.in_ok-outcome.ensures.does in
    rw c.turns.invariant.scratch
    (c.turns.invariant.leads _ _ _
    (turn_over t gone (at_plain c.in_ok-charge.ensures.does) c.in_ok-charge.ensures.spent body
    (runs_as (λ a n. after_turn_is (context a n (position_of t.body.position.value)) (turning t) (completion_of c.in-Over.completion))
    (within_stopped (λ a n. turn_left (context a n (position_of t.body.position.value)) (turning t)) (at_yielded c.in_err-turn_ends-in-Over.ensures) c.from_residual-in_err-turn_ends-in-Over.ensures))))

pub front-requires : goal.front-requires
front-requires g c = rw (c.deref-in-turns-3.ensures, c.in_ok-body.ensures.line, c.deref.ensures) c.args.turns.value.body.played
