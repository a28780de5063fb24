-- SPDX-License-Identifier: Apache-2.0
use Rattle.mglobal.proofs.GlobalWords.{is_some, ap, undoubted, ◌∙◌, next_key}
use Rattle.mglobal.proofs.Sides.{bounds_below}
use Rattle.mglobal.proofs.Orders.{some_map, below_found}
use Rattle.mglobal.proofs.ask.status.Goals as goal

pub returns-clause-descendants : goal.returns-clause-descendants
returns-clause-descendants g c sound =
    let before = undoubted c.next.ensures.doubt sound in
    let globals = g.S.NodeStore.content c.args.store.now in
    let n = c.args.key.now in
    let low = c.in_ok-low.low.items in
    let high = c.in_ok-low.high.items in
    c.is_some-descendants.ensures ∙ some_map (λ bytes. bytes.items) c.in_ok-next.field-0 ∙ ap is_some (c.in_ok-next.ensures.found sound)
    ∙ ap (λ w. is_some (next_key w c.deref.result.now c.deref-2.result.now)) (c.in_ok-get.ensures.same before)
    ∙ (λ i. is_some (next_key globals (c.deref.ensures.value i) (c.deref-2.ensures.value i)))
    ∙ below_found globals (c.in_ok-get.ensures.held before) n low high (bounds_below n c.child_bounds.ensures.stored low high c.in_ok-low.ensures.low c.in_ok-low.ensures.high)
