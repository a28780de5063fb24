-- SPDX-License-Identifier: Apache-2.0
use Rattle.mexec.proofs.ExecLaws.{refl, sym, arith, at_depth, at_wanting, at_yielded}
use Rattle.mprogram.specs.Views.{op_view, whole_view}
use Rattle.mcommand.specs.Steps.{items_view}
use Rattle.mexec.proofs.ProgramRuns.{choice_goes_on, choice_stopped, passes_by, comes_to_call, comes_to_end, goes_deeper, deeper_stopped, comes_back}
use Rattle.mexec.proofs.ProgramRuns.{back_stopped, no_call, step_goes_on, step_ends, step_stopped, within_list, no_item}
use Rattle.mexec.proofs.programs.begun.Goals as goal

pub loop-op-init : goal.loop-op-init
loop-op-init g c = record { leads = λ r p k. at_depth c.args.depth k }

pub loop-op-preserved : goal.loop-op-preserved
loop-op-preserved g c =
    let there = rw c.in-Some.is at c.op_at.ensures in
    let quiet =
    no_call c.in-Some.op c.in_default-op.not-Call c.in_default-op.not-Unless c.in_default-op.not-Pass c.in_default-op.not-Deeper c.in_default-op.not-Attach in
    let does = rw c.if-not-goes_on.false at c.in_ok-goes_on-in_default-op.ensures in
    record {
      leads = λ r q k.
          c.loop-op.invariant.leads r q
          (step_goes_on (whole_view c.args.whole) c.args.position.now _ c.loop-op.at (op_view c.in-Some.op) (items_view c.loop-op.stack.items) _
          (sym there) quiet refl does (rw c.in_ok-next.ensures.next.1 at k));
    }

pub loop-op-smaller : goal.loop-op-smaller
loop-op-smaller g c =
    let there = rw c.in-Some.is at c.op_at.ensures in
    let less = within_list _ c.loop-op.at _ (sym there) in
    let next = c.in_ok-next.ensures.next.1 in
    omega (arith, less, next)

pub returns-in_err-goes_on-in_default-op : goal.returns-in_err-goes_on-in_default-op
returns-in_err-goes_on-in_default-op g c =
    let there = rw c.in-Some.is at c.op_at.ensures in
    let quiet =
    no_call c.in-Some.op c.in_default-op.not-Call c.in_default-op.not-Unless c.in_default-op.not-Pass c.in_default-op.not-Deeper c.in_default-op.not-Attach in
    c.loop-op.invariant.leads _ _
    (step_stopped (whole_view c.args.whole) c.args.position.now _ c.loop-op.at (op_view c.in-Some.op) (items_view c.loop-op.stack.items) _
    (sym there) quiet refl c.in_err-goes_on-in_default-op.ensures c.from_residual-in_err-goes_on-in_default-op.ensures)

pub returns-then-not-goes_on : goal.returns-then-not-goes_on
returns-then-not-goes_on g c =
    let there = rw c.in-Some.is at c.op_at.ensures in
    let quiet =
    no_call c.in-Some.op c.in_default-op.not-Call c.in_default-op.not-Unless c.in_default-op.not-Pass c.in_default-op.not-Deeper c.in_default-op.not-Attach in
    let does = rw c.if-not-goes_on.true at c.in_ok-goes_on-in_default-op.ensures in
    c.loop-op.invariant.leads _ _
    (step_ends (whole_view c.args.whole) c.args.position.now _ c.loop-op.at (op_view c.in-Some.op) (items_view c.loop-op.stack.items) _
    (sym there) quiet refl does)

pub returns-in-Call : goal.returns-in-Call
returns-in-Call g c =
    let there = rw (c.in-Some.is, c.in-Call.is) at c.op_at.ensures in
    let called = rw c.in_ok-next.ensures.next.1 at (c.called.ensures (whole_view c.args.whole)) in
    c.loop-op.invariant.leads _ _
    (comes_to_call (whole_view c.args.whole) c.args.position.now _ c.loop-op.at _ (items_view c.loop-op.stack.items) (sym there) (at_yielded called))

pub returns-in_err-next : goal.returns-in_err-next
returns-in_err-next g c =
    c.loop-op.invariant.leads _ _ (at_wanting _ _ _ (rw c.in_err-next.ensures.wants at c.from_residual.ensures))

pub returns : goal.returns
returns g c =
    let none = rw (no_item _ c.in_default.not-Some) at c.op_at.ensures in
    let does = rw c.ending_of.ensures at (c.ended.ensures (whole_view c.args.whole)) in
    c.loop-op.invariant.leads _ _ (comes_to_end (whole_view c.args.whole) c.args.position.now _ c.loop-op.at (items_view c.loop-op.stack.items) (sym none) does)

pub loop-op-preserved-in-Unless : goal.loop-op-preserved-in-Unless
loop-op-preserved-in-Unless g c =
    let w = whole_view c.args.whole in
    let there = rw (c.in-Some.is, c.in-Unless.is) at c.op_at.ensures in
    let chosen = rw c.in_ok-next.ensures.next.1 at c.in_ok-at-in-Unless.ensures.does in
    record {
      leads = λ r q k.
          c.loop-op.invariant.leads r q (choice_goes_on w c.args.position.now _ c.loop-op.at _ (items_view c.loop-op.stack.items) (sym there) _ _ chosen k);
    }

pub loop-op-smaller-in-Unless : goal.loop-op-smaller-in-Unless
loop-op-smaller-in-Unless g c =
    let there = rw (c.in-Some.is, c.in-Unless.is) at c.op_at.ensures in
    let less = within_list _ c.loop-op.at _ (sym there) in
    let next = c.in_ok-next.ensures.next.1 in
    let on = c.in_ok-at-in-Unless.ensures.on in
    omega (arith, less, next, on)

pub returns-in_err-at-in-Unless : goal.returns-in_err-at-in-Unless
returns-in_err-at-in-Unless g c =
    let w = whole_view c.args.whole in
    let there = rw (c.in-Some.is, c.in-Unless.is) at c.op_at.ensures in
    let stopped = rw c.in_ok-next.ensures.next.1 at c.in_err-at-in-Unless.ensures.does in
    c.loop-op.invariant.leads _ _
    (choice_stopped w c.args.position.now _ c.loop-op.at _ (items_view c.loop-op.stack.items) (sym there) _ stopped c.from_residual-in_err-at-in-Unless.ensures)

pub loop-op-preserved-in-Pass : goal.loop-op-preserved-in-Pass
loop-op-preserved-in-Pass g c =
    let w = whole_view c.args.whole in
    let there = rw (c.in-Some.is, c.in-Pass.is) at c.op_at.ensures in
    record {
      leads = λ r q k.
          c.loop-op.invariant.leads r q
          (passes_by w c.args.position.now _ c.loop-op.at _ (items_view c.loop-op.stack.items) (sym there)
          (rw (c.in_ok-at-in-Pass.ensures.past.1, c.in_ok-next.ensures.next.1) at k));
    }

pub loop-op-smaller-in-Pass : goal.loop-op-smaller-in-Pass
loop-op-smaller-in-Pass g c =
    let there = rw (c.in-Some.is, c.in-Pass.is) at c.op_at.ensures in
    let less = within_list _ c.loop-op.at _ (sym there) in
    let next = c.in_ok-next.ensures.next.1 in
    let past = c.in_ok-at-in-Pass.ensures.past.1 in
    omega (arith, less, next, past)

pub returns-in_err-at-in-Pass : goal.returns-in_err-at-in-Pass
returns-in_err-at-in-Pass g c =
    c.loop-op.invariant.leads _ _ (at_wanting _ _ _ (rw c.in_err-at-in-Pass.ensures.wants at c.from_residual-in_err-at-in-Pass.ensures))

pub loop-op-preserved-in-Deeper : goal.loop-op-preserved-in-Deeper
loop-op-preserved-in-Deeper g c =
    let w = whole_view c.args.whole in
    let there = rw (c.in-Some.is, c.in-Deeper.is) at c.op_at.ensures in
    record {
      leads = λ r q k.
          c.loop-op.invariant.leads r q
          (goes_deeper w c.args.position.now _ c.loop-op.at (items_view c.loop-op.stack.items) _ (sym there) refl c.in_ok-deeper-in-Deeper.ensures
          (at_depth c.in_ok-deeper-in-Deeper.deeper (rw c.in_ok-next.ensures.next.1 at k)));
    }

pub loop-op-smaller-in-Deeper : goal.loop-op-smaller-in-Deeper
loop-op-smaller-in-Deeper g c =
    let there = rw (c.in-Some.is, c.in-Deeper.is) at c.op_at.ensures in
    let less = within_list _ c.loop-op.at _ (sym there) in
    let next = c.in_ok-next.ensures.next.1 in
    omega (arith, less, next)

pub returns-in_err-deeper-in-Deeper : goal.returns-in_err-deeper-in-Deeper
returns-in_err-deeper-in-Deeper g c =
    let w = whole_view c.args.whole in
    let there = rw (c.in-Some.is, c.in-Deeper.is) at c.op_at.ensures in
    c.loop-op.invariant.leads _ _
    (deeper_stopped w c.args.position.now _ c.loop-op.at (items_view c.loop-op.stack.items) _ (sym there) refl c.in_err-deeper-in-Deeper.ensures
    c.from_residual-in_err-deeper-in-Deeper.ensures)

pub loop-op-preserved-in-Attach : goal.loop-op-preserved-in-Attach
loop-op-preserved-in-Attach g c =
    let w = whole_view c.args.whole in
    let there = rw (c.in-Some.is, c.in-Attach.is) at c.op_at.ensures in
    record {
      leads = λ r q k.
          c.loop-op.invariant.leads r q
          (comes_back w c.args.position.now _ c.loop-op.at (items_view c.loop-op.stack.items) _ (sym there) c.in_ok-outer-in-Attach.ensures
          (at_depth c.in_ok-outer-in-Attach.outer (rw c.in_ok-next.ensures.next.1 at k)));
    }

pub loop-op-smaller-in-Attach : goal.loop-op-smaller-in-Attach
loop-op-smaller-in-Attach g c =
    let there = rw (c.in-Some.is, c.in-Attach.is) at c.op_at.ensures in
    let less = within_list _ c.loop-op.at _ (sym there) in
    let next = c.in_ok-next.ensures.next.1 in
    omega (arith, less, next)

pub returns-in_err-outer-in-Attach : goal.returns-in_err-outer-in-Attach
returns-in_err-outer-in-Attach g c =
    let w = whole_view c.args.whole in
    let there = rw (c.in-Some.is, c.in-Attach.is) at c.op_at.ensures in
    c.loop-op.invariant.leads _ _
    (back_stopped w c.args.position.now _ c.loop-op.at (items_view c.loop-op.stack.items) _ (sym there) c.in_err-outer-in-Attach.ensures
    c.from_residual-in_err-outer-in-Attach.ensures)
