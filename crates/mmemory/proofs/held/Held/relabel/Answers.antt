-- SPDX-License-Identifier: Apache-2.0
use Rattle.mmemory.proofs.MemoryLaws.{set, refl, arith, state_of, Step, order_same, within_same, within_more, pushed, order_by, label_undone, label_order}
use Rattle.mmemory.proofs.MemoryLaws.{relabels_in}
use Rattle.mmemory.proofs.held.Held.relabel.Goals as goal

pub invariant_of-self : goal.invariant_of-self
invariant_of-self c = record { ordered = order_same c.args.self.now _ c.reserve.ensures.items; within = within_same c.args.self.now _ c.reserve.ensures.items; rising = c.args.self.now.rising }

pub invariant_of-self-2 : goal.invariant_of-self-2
invariant_of-self-2 c =
    let h = c.args.self.now in
    let t = c.args.tree in
    let trees = h.trees.items in
    let y = c.index_mut.result.now in
    let x = c.describe-step.new.self in
    let step = c.describe-step.result in
    let u = Step t step in
    let d = c.describe-step.ensures in
    let logged = pushed h.log.items c.reserve.new.self.items c.push.new.self.items u c.push.result (c.push.ensures.succeeds (omega (arith, c.in_ok-reserve.ensures.ok))) c.reserve.ensures.items c.push.ensures.items in
    let is = c.index_mut.ensures.value in
    record {
      ordered = order_by h c.push.new.self.items u (state_of (set trees t x) h.version) logged
          (label_undone trees h.version t y x step _ _ c.requires is d) (label_order trees h.version t y x step _ _ c.requires is d);
      within = within_more h.marks.items h.log.items c.push.new.self.items u logged h.within;
      rising = h.rising;
    }

pub returns-clause-ok : goal.returns-clause-ok
returns-clause-ok c =
    relabels_in c.args.self.now _ c.args.tree c.index_mut.result.now c.describe-step.new.self c.describe-step.result _ _ c.requires c.index_mut.ensures.value c.describe-step.ensures c.args.object.now refl c.in_ok-described.ensures
    refl refl (pushed _ _ _ _ c.push.result (c.push.ensures.succeeds (omega (arith, c.in_ok-reserve.ensures.ok))) c.reserve.ensures.items c.push.ensures.items) refl
