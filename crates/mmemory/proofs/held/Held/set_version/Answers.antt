-- SPDX-License-Identifier: Apache-2.0
use Rattle.mmemory.proofs.MemoryLaws.{◌≡◌, refl, arith, Version, state_of, undone_one, now, order_same, within_same, within_more, pushed, order_by, kept_by}
use Rattle.mmemory.proofs.held.Held.set_version.Goals as goal

pub invariant_of-self : goal.invariant_of-self
invariant_of-self c = record { ordered = order_same c.args.self.now _ c.reserve.ensures.items; within = within_same c.args.self.now _ c.reserve.ensures.items; rising = c.args.self.now.rising }

pub invariant_of-self-2 : goal.invariant_of-self-2
invariant_of-self-2 c =
    let h = c.args.self.now in
    let u = Version c.replace-old.result in
    let logged = pushed h.log.items c.reserve.new.self.items c.push.new.self.items u c.push.result (c.push.ensures.succeeds (omega (arith, c.in_ok-reserve.ensures.ok))) c.reserve.ensures.items c.push.ensures.items in
    let back : undone_one u (state_of h.trees.items c.replace-old.new.dest) ≡ now h = λ i. state_of h.trees.items (c.replace-old.ensures.value i) in
    record {
      ordered = order_by h c.push.new.self.items u (state_of h.trees.items c.replace-old.new.dest) logged back (λ all. all);
      within = within_more h.marks.items h.log.items c.push.new.self.items u logged h.within;
      rising = h.rising;
    }

pub returns-clause-past : goal.returns-clause-past
returns-clause-past c =
    let logged = pushed _ _ _ _ c.push.result (c.push.ensures.succeeds (omega (arith, c.in_ok-reserve.ensures.ok))) c.reserve.ensures.items c.push.ensures.items in
    kept_by c.args.self.now _ (Version c.replace-old.result) logged (λ i. state_of c.args.self.now.trees.items (c.replace-old.ensures.value i)) refl
