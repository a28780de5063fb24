-- SPDX-License-Identifier: Apache-2.0
use Rattle.mmemory.proofs.MemoryLaws.{refl, arith, subst, Fits, Halves, rows_after, Step, order_same, within_same, order_kept, within_more, wrote, pushed}
use Rattle.mmemory.proofs.MemoryLaws.{made_at, after_error, nest_here, both_seen, untouched, order_untouched, keeps_untouched}
use Rattle.mmemory.proofs.held.Held.change.Goals as goal

pub change-requires : goal.change-requires
change-requires c = subst (Fits c.args.change) (nest_here c.args.self.now c.args.tree c.index_mut.result.now c.requires.tree c.index_mut.ensures.value) c.requires.fits

pub invariant_of-self : goal.invariant_of-self
invariant_of-self c = record { ordered = order_same c.args.self.now _ c.reserve.ensures.items; within = within_same c.args.self.now _ c.reserve.ensures.items; rising = c.args.self.now.rising }

pub invariant_of-self-2 : goal.invariant_of-self-2
invariant_of-self-2 c =
    let h = c.args.self.now in
    let logged = pushed h.log.items c.reserve.new.self.items c.push.new.self.items (Step c.args.tree c.in_ok-step.step) c.push.result (c.push.ensures.succeeds (omega (arith, c.in_ok-reserve.ensures.ok))) c.reserve.ensures.items c.push.ensures.items in
    let made = made_at h c.args.tree c.index_mut.result.now c.change-2.new.self c.in_ok-step.step (rows_after c.args.change) c.requires.tree c.index_mut.ensures.value c.in_ok-step.ensures.ok in
    record {
      ordered = order_kept h.log.items c.push.new.self.items h.trees.items h.version c.args.tree c.index_mut.result.now c.change-2.new.self c.in_ok-step.step _ c.requires.tree c.index_mut.ensures.value made logged c.requires.shaped h.ordered;
      within = within_more h.marks.items h.log.items c.push.new.self.items (Step c.args.tree c.in_ok-step.step) logged h.within;
      rising = h.rising;
    }

pub returns-clause-ok : goal.returns-clause-ok
returns-clause-ok c =
    let h = c.args.self.now in
    let logged = pushed h.log.items c.reserve.new.self.items c.push.new.self.items (Step c.args.tree c.in_ok-step.step) c.push.result (c.push.ensures.succeeds (omega (arith, c.in_ok-reserve.ensures.ok))) c.reserve.ensures.items c.push.ensures.items in
    let made = made_at h c.args.tree c.index_mut.result.now c.change-2.new.self c.in_ok-step.step (rows_after c.args.change) c.requires.tree c.index_mut.ensures.value c.in_ok-step.ensures.ok in
    wrote h _ c.args.tree c.index_mut.result.now c.change-2.new.self c.in_ok-step.step _ c.requires.tree c.index_mut.ensures.value made refl refl logged refl

pub returns-clause-halves : goal.returns-clause-halves
returns-clause-halves c = both_seen c.args.self.now c.args.tree c.index_mut.result.now c.change-2.new.self c.requires.tree c.index_mut.ensures.value (Halves c.args.change) c.in_ok-step.ensures.halves

pub invariant_of-self-in-Break-branch-2 : goal.invariant_of-self-in-Break-branch-2
invariant_of-self-in-Break-branch-2 c =
    let h = c.args.self.now in
    let is = untouched h.trees.items h.version c.args.tree c.index_mut.result.now c.change-2.new.self c.requires.tree c.index_mut.ensures.value c.in_err-step.ensures.err in
    record { ordered = order_untouched h c.reserve.new.self.items _ c.reserve.ensures.items is; within = within_same h c.reserve.new.self.items c.reserve.ensures.items; rising = h.rising }

pub returns-in_err-step-clause-err : goal.returns-in_err-step-clause-err
returns-in_err-step-clause-err c =
    let h = c.args.self.now in
    let is = untouched h.trees.items h.version c.args.tree c.index_mut.result.now c.change-2.new.self c.requires.tree c.index_mut.ensures.value c.in_err-step.ensures.err in
    after_error _ (keeps_untouched h _ is c.reserve.ensures.items refl refl)
