-- SPDX-License-Identifier: Apache-2.0
use Rattle.mglobal.proofs.GlobalWords.{◌≡◌, Some, None, option_map, List, ℕ, ap, sym, ◌∙◌, Direction, Globals, Node, AreHeld, way, nearest_key}
use Rattle.mkey.specs.Key.{one_node}
use Rattle.mspec.specs.Globals.{following_at}
use Rattle.mglobal.specs.Next.{BoundsFollowing}
use Rattle.mglobal.proofs.Searches.{IsFollowing, none_follows, one_follows}
use Rattle.mglobal.proofs.seeking.following.Goals as goal

-- what is found between the bounds that the code has
module _ (n : Node) (d : Direction) (g : Globals) (held : AreHeld g) (low high from to : List ℕ) (bounds : BoundsFollowing d n low high)
    (from_is : from ≡ low) (to_is : to ≡ high) where
  none : None ≡ nearest_key d g from to → None ≡ following_at g d n
  none e = none_follows n d g held low high bounds (e ∙ (λ i. nearest_key d g (from_is i) (to_is i)))

  one : (bytes : List ℕ) → Some bytes ≡ nearest_key d g from to → IsFollowing n d g bytes
  one bytes e = one_follows n d g held low high bounds bytes (e ∙ (λ i. nearest_key d g (from_is i) (to_is i)))

pub returns-in_default-clause-next : goal.returns-in_default-clause-next
returns-in_default-clause-next g c sound =
    none (record { account = c.args.account.now; name = c.args.name.now; subscripts = c.args.subs.now }) (way c.args.direction)
    (g.S.NodeStore.content c.args.store.now) (c.in_ok-found.ensures.held sound) c.in_ok-low.low.items c.in_ok-low.high.items _ _
    c.in_ok-low.ensures.bounds c.deref.ensures.value c.deref-2.ensures.value
    (ap (option_map (λ bytes. bytes.items)) (sym c.in_default.is) ∙ c.in_ok-found.ensures.found sound)

pub returns-in-Some-parts-clause-next : goal.returns-in-Some-parts-clause-next
returns-in-Some-parts-clause-next g c sound =
    let it =
    one (record { account = c.args.account.now; name = c.args.name.now; subscripts = c.args.subs.now }) (way c.args.direction)
    (g.S.NodeStore.content c.args.store.now) (c.in_ok-found.ensures.held sound) c.in_ok-low.low.items c.in_ok-low.high.items _ _
    c.in_ok-low.ensures.bounds c.deref.ensures.value c.deref-2.ensures.value c.in-Some.found.items
    (ap (option_map (λ bytes. bytes.items)) (sym c.in-Some.is) ∙ c.in_ok-found.ensures.found sound) in
    let read = rw c.in-Some-parts.is at c.in_ok-parts.ensures in
    ap (λ (m : Node). Some m.subscripts) (one_node _ it.node _ read.0 it.is.0 read.1 (it.is.1 ∙ sym c.deref-3.ensures.value)) ∙ sym it.found

pub returns-clause-store : goal.returns-clause-store
returns-clause-store g c steady room same =
    let sound = g.met.S.NodeStore.steady_is_told steady c.nearest.new.store room in
    let it =
    one (record { account = c.args.account.now; name = c.args.name.now; subscripts = c.args.subs.now }) (way c.args.direction)
    (g.S.NodeStore.content c.args.store.now) (c.in_ok-found.ensures.held sound) c.in_ok-low.low.items c.in_ok-low.high.items _ _
    c.in_ok-low.ensures.bounds c.deref.ensures.value c.deref-2.ensures.value c.in-Some.found.items
    (ap (option_map (λ bytes. bytes.items)) (sym c.in-Some.is) ∙ c.in_ok-found.ensures.found sound) in
    (rw c.in-None.is at c.in_ok-parts.ensures) it.node it.is.0 (it.is.1 ∙ sym c.deref-3.ensures.value)
