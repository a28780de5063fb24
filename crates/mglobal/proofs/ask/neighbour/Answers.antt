-- SPDX-License-Identifier: Apache-2.0
use Rattle.mglobal.proofs.GlobalWords.{◌≡◌, true, Option, Some, None, option_map, is_some, List, ℕ, IsSome, ap, sym, subst, ◌∙◌, Direction, Globals, Node, Text}
use Rattle.mglobal.proofs.GlobalWords.{AreHeld, front, last, order_at, IsKeyOf, child_under, way, BoundsOnward, nearest_key}
use Rattle.mglobal.proofs.Orders.{none_next, one_next}
use Rattle.mglobal.proofs.ask.neighbour.Goals as goal

-- what is found between the bounds that the code has: they are those of the node above as it came
module _ (n up : Node) (fore : List Text) (up_is : up ≡ record n { subscripts = fore }) (fore_is : fore ≡ front n.subscripts) (d : Direction) (g : Globals) (held : AreHeld g) (low high from to : List ℕ)
    (given : BoundsOnward d up (last n.subscripts) low high) (from_is : from ≡ low) (to_is : to ≡ high) where
  above : up ≡ record n { subscripts = front n.subscripts }
  above = up_is ∙ ap (λ xs. record n { subscripts = xs }) fore_is

  bounds : BoundsOnward d (record n { subscripts = front n.subscripts }) (last n.subscripts) low high
  bounds = subst (λ a. BoundsOnward d a (last n.subscripts) low high) above given

  none : None ≡ nearest_key d g from to → None ≡ order_at g d n
  none e = none_next n d g held low high bounds (e ∙ (λ i. nearest_key d g (from_is i) (to_is i)))

  one : (bytes : List ℕ) → Some bytes ≡ nearest_key d g from to → (node : Node) × IsKeyOf node bytes × (order_at g d n ≡ child_under up node) × IsSome (child_under up node)
  one bytes e =
      let it = one_next n d g held low high bounds bytes (e ∙ (λ i. nearest_key d g (from_is i) (to_is i))) in
      (it.node, it.is, it.order ∙ ap (λ a. child_under a it.node) (sym above), subst (λ a. IsSome (child_under a it.node)) (sym above) it.some)

none_some : (o : Option (List ℕ)) → None ≡ o → is_some o ≡ true → ⊥
none_some None e f = absurd (cc)
none_some (Some x) e f = absurd (cc)

pub returns-in_default-clause-next : goal.returns-in_default-clause-next
returns-in_default-clause-next g c sound =
    none (record { account = c.args.account.now; name = c.args.name.now; subscripts = c.args.subs.now }) c.in_ok-above.above _ c.in_ok-above.ensures.key c.front.ensures (way c.args.direction) (g.S.NodeStore.content c.args.store.now)
    (c.in_ok-found.ensures.held sound) c.in_ok-low.low.items c.in_ok-low.high.items _ _ c.in_ok-low.ensures.bounds c.deref.ensures.value c.deref-2.ensures.value (ap (option_map (λ bytes. bytes.items)) (sym c.in_default.is) ∙ c.in_ok-found.ensures.found sound)

pub returns-in-Some-2-clause-next : goal.returns-in-Some-2-clause-next
returns-in-Some-2-clause-next g c sound =
    let (node, is, order, some) =
    one (record { account = c.args.account.now; name = c.args.name.now; subscripts = c.args.subs.now }) c.in_ok-above.above _ c.in_ok-above.ensures.key c.front.ensures (way c.args.direction) (g.S.NodeStore.content c.args.store.now)
    (c.in_ok-found.ensures.held sound) c.in_ok-low.low.items c.in_ok-low.high.items _ _ c.in_ok-low.ensures.bounds c.deref.ensures.value c.deref-2.ensures.value c.in-Some.found.items (ap (option_map (λ bytes. bytes.items)) (sym c.in-Some.is) ∙ c.in_ok-found.ensures.found sound) in
    sym c.in-Some-2.is ∙ c.in_ok-child.ensures.child node (subst (IsKeyOf node) (sym c.deref-3.ensures.value) is) ∙ sym order

pub returns-clause-store : goal.returns-clause-store
returns-clause-store g c steady room same =
    let sound = g.met.S.NodeStore.steady_is_told steady c.nearest.new.store room in
    let (node, is, order, some) =
    one (record { account = c.args.account.now; name = c.args.name.now; subscripts = c.args.subs.now }) c.in_ok-above.above _ c.in_ok-above.ensures.key c.front.ensures (way c.args.direction) (g.S.NodeStore.content c.args.store.now)
    (c.in_ok-found.ensures.held sound) c.in_ok-low.low.items c.in_ok-low.high.items _ _ c.in_ok-low.ensures.bounds c.deref.ensures.value c.deref-2.ensures.value c.in-Some.found.items (ap (option_map (λ bytes. bytes.items)) (sym c.in-Some.is) ∙ c.in_ok-found.ensures.found sound) in
    none_some _ (sym c.in-None.is ∙ c.in_ok-child.ensures.child node (subst (IsKeyOf node) (sym c.deref-3.ensures.value) is)) some
