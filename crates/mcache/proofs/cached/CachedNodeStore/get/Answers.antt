-- SPDX-License-Identifier: Apache-2.0
use Rattle.mcache.proofs.CacheWords.{◌≡◌, undoubted, Some, refl, sym, ap, subst, ◌∙◌, get, AreHeld}
use Rattle.mcache.proofs.EntriesOf.{is_got, is_held, in_them, read_now, with_one}
use Rattle.mcache.proofs.cached.CachedNodeStore.get.Goals as goal

pub invariant_of-self : goal.invariant_of-self
invariant_of-self g c sound = in_them (c.self.invariant sound) c.find.new.entries.entries c.find.ensures.kept

pub returns-in-Some-clause-found : goal.returns-in-Some-clause-found
returns-in-Some-clause-found g c sound =
    is_got (c.self.invariant sound) c.args.key.now c.as_bytes.result.now c.in-Some.text c.as_bytes.ensures.stored c.as_bytes.ensures.bytes c.in-Some.ensures.found
    ∙ ap (λ v. get (g.S.NodeStore.content v.store) c.args.key.now) c.self.view_is

pub returns-in-Some-clause-held : goal.returns-in-Some-clause-held
returns-in-Some-clause-held g c sound = subst (λ v. AreHeld (g.S.NodeStore.content v.store)) c.self.view_is (is_held (c.self.invariant sound) c.as_bytes.result.now c.in-Some.text c.in-Some.ensures.found)

pub invariant_of-self-in-Some-found : goal.invariant_of-self-in-Some-found
invariant_of-self-in-Some-found g c sound =
    let same = c.get-answer.ensures.same sound in
    let now = g.S.NodeStore.content c.get-answer.new.self in
    let before = in_them (c.self.invariant (undoubted c.get-answer.ensures.doubt sound)) c.find.new.entries.entries c.find.ensures.kept in
    let were = read_now before now same (c.get-answer.ensures.held sound) in
    let has : get now c.args.key.now ≡ Some c.in-Some-found.text = ap (λ x. get x c.args.key.now) same ∙ sym (c.in_ok-found.ensures.found sound) ∙ c.in-Some-found.is in
    let again = c.as_bytes-in-Some-found.ensures in
    with_one were c.args.key.now c.as_bytes-in-Some-found.result.now c.in-Some-found.text c.keep_if.new.entries.entries refl again.stored again.bytes has c.keep_if.ensures.kept
