-- SPDX-License-Identifier: Apache-2.0
use Rattle.mglobal.proofs.GlobalWords.{◌≡◌, subst, sym, lines_of}
use Rattle.mglobal.proofs.routine_cache.RoutineCacheNodeStore.keep_routine.Goals as goal

pub invariant_of-self : goal.invariant_of-self
invariant_of-self g c sound =
    let content = g.S.NodeStore.content in
    let lines = subst (λ store. c.args.lines.now.value.items ≡ lines_of (content store) c.args.account.now c.args.name.now) (sym c.self.view_is) (c.requires.lines (subst (λ store. g.S.NodeStore.doubt store ≡ 0) c.self.view_is sound)) in
    c.keep.ensures (content c.self.inside.store) (c.self.invariant sound) lines
