-- SPDX-License-Identifier: Apache-2.0
use Rattle.mglobal.proofs.GlobalWords.{◌≡◌, subst, sym, AreCopiesIn}
use Rattle.mglobal.proofs.routine_cache.RoutineCacheNodeStore.kept_routine.Goals as goal

pub returns-clause-lines : goal.returns-clause-lines
returns-clause-lines g c sound =
    let content = g.S.NodeStore.content in
    let are = subst (λ store. AreCopiesIn (content store) c.self.inside.copies.items) c.self.view_is (c.self.invariant (subst (λ store. g.S.NodeStore.doubt store ≡ 0) (sym c.self.view_is) sound)) in
    c.find.ensures (content c.args.self.now) (subst (AreCopiesIn (content c.args.self.now)) (sym c.deref.ensures.value) are)
