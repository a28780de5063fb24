-- SPDX-License-Identifier: Apache-2.0
use Rattle.mmemory.proofs.MemoryLaws.{◌≡◌, ◌+◌, ◌-◌, ◌++◌, length, refl, sym, ap, subst, ◌∙◌, arith, Shorten, state_of, undone_one, IsInOrder, now, order_same}
use Rattle.mmemory.proofs.MemoryLaws.{within_same, within_more, pushed, order_untouched, order_by, shortened, order_padded, pads_more}
use Rattle.mmemory.proofs.held.Held.make_room.Goals as goal

pub invariant_of-self : goal.invariant_of-self
invariant_of-self c = record { ordered = order_same c.args.self.now _ c.reserve.ensures.items; within = within_same c.args.self.now _ c.reserve.ensures.items; rising = c.args.self.now.rising }

pub invariant_of-self-in-Break-branch-2 : goal.invariant_of-self-in-Break-branch-2
invariant_of-self-in-Break-branch-2 c = record { ordered = order_same c.args.self.now _ c.reserve.ensures.items; within = within_same c.args.self.now _ c.reserve.ensures.items; rising = c.args.self.now.rising }

pub invariant_of-self-in-Break-branch-3 : goal.invariant_of-self-in-Break-branch-3
invariant_of-self-in-Break-branch-3 c =
    let h = c.args.self.now in
    record {
      ordered = order_untouched h c.reserve.new.self.items _ c.reserve.ensures.items (ap (λ ts. state_of ts h.version) c.in_err-append.ensures.items);
      within = within_same h c.reserve.new.self.items c.reserve.ensures.items;
      rising = h.rising;
    }

pub invariant_of-self-2 : goal.invariant_of-self-2
invariant_of-self-2 c =
    let h = c.args.self.now in
    let u = Shorten c.len-len.result in
    let more = c.in_ok-more.more.items in
    let n = c.args.tree - c.len-len.result + 1 in
    let logged = pushed h.log.items c.reserve.new.self.items c.push.new.self.items u c.push.result (c.push.ensures.succeeds (omega (arith, c.in_ok-reserve.ensures.ok))) c.reserve.ensures.items c.push.ensures.items in
    let trees : c.append.new.self.items ≡ h.trees.items ++ more = c.in_ok-append.ensures.items in
    let len : c.len-len.result ≡ length h.trees.items = omega (arith, c.len-len.ensures, h.trees.ok.0) in
    let same : state_of c.append.new.self.items h.version ≡ state_of (h.trees.items ++ more) h.version = ap (λ ts. state_of ts h.version) trees in
    let back : undone_one u (state_of c.append.new.self.items h.version) ≡ now h = ap (undone_one u) same ∙ shortened h.trees.items more h.version n c.in_ok-more.ensures c.len-len.result len in
    record {
      ordered = order_by h c.push.new.self.items u (state_of c.append.new.self.items h.version) logged back
          (λ all. subst IsInOrder (sym same) (order_padded h.trees.items more h.version n c.in_ok-more.ensures all));
      within = within_more h.marks.items h.log.items c.push.new.self.items u logged h.within;
      rising = h.rising;
    }

pub returns-clause-ok : goal.returns-clause-ok
returns-clause-ok c =
    let h = c.args.self.now in
    let u = Shorten c.len-len.result in
    let n = c.args.tree - c.len-len.result + 1 in
    let logged = pushed h.log.items c.reserve.new.self.items c.push.new.self.items u c.push.result (c.push.ensures.succeeds (omega (arith, c.in_ok-reserve.ensures.ok))) c.reserve.ensures.items c.push.ensures.items in
    let len : c.len-len.result ≡ length h.trees.items = omega (arith, c.len-len.ensures, h.trees.ok.0) in
    let count : n ≡ c.args.tree + 1 - length h.trees.items = omega (arith, len, c.if-tree-len.false) in
    pads_more h _ c.args.tree c.len-len.result n c.in_ok-more.more.items c.in_ok-more.ensures len count c.in_ok-append.ensures.items refl logged refl
