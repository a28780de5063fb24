-- SPDX-License-Identifier: Apache-2.0
use Rattle.mmemory.proofs.MemoryLaws.{◌≡◌, ◌<◌, [], length, get_or, refl, sym, ap, subst, ◌∙◌, arith, KeepsShown, Tree, order_same, within_same, within_more}
use Rattle.mmemory.proofs.MemoryLaws.{pushed, after_error, order_put, empty_fits, puts_in, padded_shown, shown_kept}
use Rattle.mmemory.proofs.held.Held.replace.Goals as goal

pub invariant_of-self : goal.invariant_of-self
invariant_of-self c =
    record { ordered = order_same c.make_room.new.self _ c.reserve.ensures.items; within = within_same c.make_room.new.self _ c.reserve.ensures.items; rising = c.make_room.new.self.rising }

pub returns-in_err-reserve-clause-err : goal.returns-in_err-reserve-clause-err
returns-in_err-reserve-clause-err c =
    let h = c.make_room.new.self in
    after_error _ (shown_kept c.args.self.now h _ (padded_shown c.args.self.now h c.args.tree c.in_ok-make_room.ensures.ok) refl c.reserve.ensures.items refl)

pub returns-in_err-kept-clause-err : goal.returns-in_err-kept-clause-err
returns-in_err-kept-clause-err c =
    let same : KeepsShown c.args.self.now c.args.self.now = record { keeps = record { past = λ n low. refl; longer = omega arith; marks = refl }; shown_is = refl } in
    after_error _ same

pub invariant_of-self-2 : goal.invariant_of-self-2
invariant_of-self-2 c =
    let h = c.make_room.new.self in
    let t = c.args.tree in
    let trees = h.trees.items in
    let y = c.swap.new.y in
    let x = c.swap.new.x in
    let low : t < length trees = c.in_ok-make_room.ensures.room in
    let is : y ≡ get_or trees t y = subst (λ (w : Tree). w ≡ get_or trees t w) (sym c.swap.ensures.y_after) c.index_mut.ensures.value in
    let logged =
    pushed h.log.items c.reserve.new.self.items c.push.new.self.items _ c.push.result
    (c.push.ensures.succeeds (omega (arith, c.in_ok-reserve.ensures.ok))) c.reserve.ensures.items c.push.ensures.items in
    let fresh : x ≡ c.args.new = grind arith in
    let none : x.chunks.items ≡ [] = ap (λ (w : Tree). w.chunks.items) fresh ∙ c.requires in
    record {
      ordered = order_put h c.push.new.self.items t y x _ logged refl low is (empty_fits x none);
      within = within_more h.marks.items h.log.items c.push.new.self.items _ logged h.within;
      rising = h.rising;
    }

pub returns-clause-ok : goal.returns-clause-ok
returns-clause-ok c =
    let room = c.in_ok-make_room.ensures in
    let h = c.make_room.new.self in
    let is = subst (λ (w : Tree). w ≡ get_or h.trees.items c.args.tree w) (sym c.swap.ensures.y_after) c.index_mut.ensures.value in
    let fresh : c.swap.new.x ≡ c.args.new = grind arith in
    puts_in c.args.self.now h _ c.args.tree c.swap.new.y c.swap.new.x c.args.new _ refl fresh room.ok room.room is refl refl
    (pushed _ _ _ _ c.push.result (c.push.ensures.succeeds (omega (arith, c.in_ok-reserve.ensures.ok))) c.reserve.ensures.items c.push.ensures.items) refl
