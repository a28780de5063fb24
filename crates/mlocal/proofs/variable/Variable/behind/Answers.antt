-- SPDX-License-Identifier: Apache-2.0
use Rattle.mlocal.proofs.LocalLaws.{◌≡◌, ◌<◌, ◌++◌, ◌∷◌, [], List, length, ap, sym, subst, ◌∙◌, arith, option_map, nat_tests, Text, front, last, is_before}
use Rattle.mlocal.proofs.LocalLaws.{behind_below, is_between, below_all, below_behind, empty_first, onward_walk, split_last, whole, no_list}
use Rattle.mlocal.proofs.variable.Variable.behind.Goals as goal

pub returns-then-is_empty-clause-next : goal.returns-then-is_empty-clause-next
returns-then-is_empty-clause-next c =
    let subs = c.args.subs.now in
    let none : last subs ≡ [] = sym c.last.ensures ∙ no_list c.last.result.now (grind (arith, nat_tests, c.if-is_empty.ensures)) in
    onward_walk c.args.self.now c.self.inside.own c.self.inside.values c.self.view_is c.first_behind.ensures.ordered c.self.invariant
    c.args.above.now (front subs) (last subs)
    (λ k is. ap (λ low. is_between low (behind_below (front subs)) k) c.requires.above
    ∙ below_all (is_before (last subs)) (λ s sub. ap (λ x. is_before x s) none ∙ empty_first s sub.0.some) (front subs) k is)
    (option_map (λ k. k.now) c.first_behind.result) c.first_behind.ensures.key

pub behind_below-requires : goal.behind_below-requires
behind_below-requires c =
    let some : 0 < length c.last.result.now = grind (arith, nat_tests, c.if-is_empty.ensures) in
    whole c.args.subs.now c.requires.subs (subst (λ x. 0 < length x) c.last.ensures some)

start_is : (subs : List Text) (key : List Text) → 0 < length subs → key ≡ behind_below subs → key ≡ behind_below (front subs ++ last subs ∷ [])
start_is subs key some e = e ∙ ap behind_below (split_last subs some)

pub returns-clause-next : goal.returns-clause-next
returns-clause-next c =
    let subs = c.args.subs.now in
    let start = start_is subs c.in_ok-start.start c.requires.subs.some c.in_ok-start.ensures.key in
    onward_walk c.args.self.now c.self.inside.own c.self.inside.values c.self.view_is c.first_behind-2.ensures.ordered c.self.invariant
    c.in_ok-start.start (front subs) (last subs)
    (λ k is. ap (λ low. is_between low (behind_below (front subs)) k) start ∙ below_behind (front subs) (last subs) k is)
    (option_map (λ k. k.now) c.first_behind-2.result) c.first_behind-2.ensures.key
