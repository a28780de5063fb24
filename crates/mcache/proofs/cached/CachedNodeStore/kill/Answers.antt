-- SPDX-License-Identifier: Apache-2.0
use Rattle.mcache.proofs.CacheWords.{undoubted, sym, subst, AreOf}
use Rattle.mcache.proofs.EntriesOf.{behind_kill}
use Rattle.mcache.proofs.cached.CachedNodeStore.kill.Goals as goal

pub invariant_of-self-2 : goal.invariant_of-self-2
invariant_of-self-2 g c sound =
    let key = c.as_bytes.ensures in
    subst (λ x. AreOf x c.self.inside.told c.forget_below.new.entries.entries) (sym (c.in_ok-kill.ensures.killed sound))
    (behind_kill (c.self.invariant (undoubted c.in_ok-kill.ensures.doubt sound)) c.args.key.now c.as_bytes.result.now c.forget_below.new.entries.entries key.stored key.bytes c.forget_below.ensures.kept c.forget_below.ensures.gone)
