-- SPDX-License-Identifier: Apache-2.0
use Rattle.mglobal.proofs.GlobalWords.{undoubted, without_subtree}
use Rattle.mglobal.proofs.CopyLaws.{copies_killed, copies_after}
use Rattle.mglobal.proofs.routine_cache.RoutineCacheNodeStore.kill.Goals as goal

pub invariant_of-self : goal.invariant_of-self
invariant_of-self g c sound =
    let globals = g.S.NodeStore.content c.self.inside.store in
    let copies = c.forget.new.copies.items in
    let before = c.forget.ensures.others globals (c.self.invariant (undoubted c.kill.ensures.doubt sound)) in
    copies_after c.kill.result globals (without_subtree globals c.args.key.now) (g.S.NodeStore.content c.kill.new.self) copies (c.kill.ensures.killed sound) (c.kill.ensures.fault sound) before (copies_killed globals c.args.key.now copies c.forget.ensures.apart before)
