-- SPDX-License-Identifier: Apache-2.0
use Rattle.mglobal.proofs.GlobalWords.{undoubted, insert}
use Rattle.mglobal.proofs.CopyLaws.{copies_put, copies_after}
use Rattle.mglobal.proofs.routine_cache.RoutineCacheNodeStore.put.Goals as goal

pub invariant_of-self : goal.invariant_of-self
invariant_of-self g c sound =
    let globals = g.S.NodeStore.content c.self.inside.store in
    let copies = c.forget.new.copies.items in
    let before = c.forget.ensures.others globals (c.self.invariant (undoubted c.put.ensures.doubt sound)) in
    copies_after c.put.result globals (insert globals c.args.key.now c.args.text.now) (g.S.NodeStore.content c.put.new.self) copies (c.put.ensures.put sound) (c.put.ensures.fault sound) before (copies_put globals c.args.key.now c.args.text.now copies c.forget.ensures.apart before)
