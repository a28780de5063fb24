-- SPDX-License-Identifier: Apache-2.0
use Rattle.mcache.proofs.CacheWords.{undoubted, true, refl, sym, subst, AreOf}
use Rattle.mcache.proofs.EntriesOf.{behind_put, read_now, with_one, got_itself}
use Rattle.mcache.proofs.cached.CachedNodeStore.put.Goals as goal

pub invariant_of-self-2 : goal.invariant_of-self-2
invariant_of-self-2 g c sound =
    let globals = g.S.NodeStore.content c.self.inside.store in
    let key = c.as_bytes.ensures in
    let again = c.as_bytes-2.ensures in
    let were = read_now (c.self.invariant (undoubted c.in_ok-put.ensures.doubt sound)) globals refl (c.in_ok-put.ensures.held sound) in
    let behind = behind_put were c.args.key.now c.as_bytes.result.now c.args.text.now c.forget.new.entries.entries key.stored c.requires key.bytes c.forget.ensures.kept c.forget.ensures.gone in
    subst (λ x. AreOf x true c.keep.new.entries.entries) (sym (c.in_ok-put.ensures.put sound))
    (with_one behind c.args.key.now c.as_bytes-2.result.now c.args.text.now c.keep.new.entries.entries refl again.stored again.bytes (got_itself globals c.args.key.now c.args.text.now) c.keep.ensures.kept)
