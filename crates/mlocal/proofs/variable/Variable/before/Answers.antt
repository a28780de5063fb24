-- SPDX-License-Identifier: Apache-2.0
use Rattle.mlocal.proofs.LocalLaws.{◌≡◌, ◌<◌, ◌||◌, [], length, ap, sym, subst, ◌∙◌, arith, option_map, nat_tests, subscripts_cmp, significant_digits, front}
use Rattle.mlocal.proofs.LocalLaws.{last, is_before, is_empty, behind_below, beyond, is_between, has_child, below_all, below_before, more_behind, last_walk}
use Rattle.mlocal.proofs.LocalLaws.{not_child, split_last, whole, no_list, not_empty}
use Rattle.mlocal.proofs.variable.Variable.before.Goals as goal

pub last_between-requires-clause-forward : goal.last_between-requires-clause-forward
last_between-requires-clause-forward c =
    let end = c.in_ok-end.ensures.key ∙ ap behind_below c.front.ensures in
    ap (λ low. subscripts_cmp significant_digits low c.in_ok-end.end) c.requires.above ∙ ap (subscripts_cmp significant_digits (front c.args.subs.now)) end ∙ more_behind (front c.args.subs.now) beyond []

pub returns-then-is_empty-clause-key : goal.returns-then-is_empty-clause-key
returns-then-is_empty-clause-key c =
    let subs = c.args.subs.now in
    let end = c.in_ok-end.ensures.key ∙ ap behind_below c.front.ensures in
    let none : last subs ≡ [] = sym c.last.ensures ∙ no_list c.last.result.now (grind (arith, nat_tests, c.if-is_empty.ensures)) in
    last_walk c.args.self.now c.self.inside.own c.self.inside.values c.self.view_is c.last_between.ensures.ordered c.self.invariant
    (is_between c.args.above.now c.in_ok-end.end) (has_child (λ s. is_empty (last subs) || is_before s (last subs)) (front subs)) (not_child (λ s. is_empty (last subs) || is_before s (last subs)) (front subs))
    (λ k is. ap (λ low. is_between low c.in_ok-end.end k) c.requires.above ∙ ap (λ high. is_between (front subs) high k) end
    ∙ below_all (λ s. is_empty (last subs) || is_before s (last subs)) (λ s sub. ap (λ x. is_empty x || is_before s x) none) (front subs) k is)
    (option_map (λ k. k.now) c.last_between.result) c.last_between.ensures.key

pub build-requires : goal.build-requires
build-requires c =
    let some : 0 < length c.last.result.now = grind (arith, nat_tests, c.if-is_empty.ensures) in
    whole c.args.subs.now c.requires.subs (subst (λ x. 0 < length x) c.last.ensures some)

pub last_between-requires-2-clause-forward : goal.last_between-requires-2-clause-forward
last_between-requires-2-clause-forward c =
    let subs = c.args.subs.now in
    let end = c.in_ok-end-2.ensures.key ∙ split_last subs c.requires.subs.some in
    ap (λ low. subscripts_cmp significant_digits low c.in_ok-end-2.end) c.requires.above ∙ ap (subscripts_cmp significant_digits (front subs)) end ∙ more_behind (front subs) (last subs) []

pub returns-clause-key : goal.returns-clause-key
returns-clause-key c =
    let subs = c.args.subs.now in
    let end = c.in_ok-end-2.ensures.key ∙ split_last subs c.requires.subs.some in
    let some : 0 < length c.last.result.now = grind (arith, nat_tests, c.if-is_empty.ensures) in
    let full = not_empty (last subs) (subst (λ x. 0 < length x) c.last.ensures some) in
    last_walk c.args.self.now c.self.inside.own c.self.inside.values c.self.view_is c.last_between-2.ensures.ordered c.self.invariant
    (is_between c.args.above.now c.in_ok-end-2.end) (has_child (λ s. is_empty (last subs) || is_before s (last subs)) (front subs)) (not_child (λ s. is_empty (last subs) || is_before s (last subs)) (front subs))
    (λ k is. ap (λ low. is_between low c.in_ok-end-2.end k) c.requires.above ∙ ap (λ high. is_between (front subs) high k) end
    ∙ below_before (front subs) (last subs) k ∙ ap (λ b. has_child (λ s. b || is_before s (last subs)) (front subs) k) (sym full))
    (option_map (λ k. k.now) c.last_between-2.result) c.last_between-2.ensures.key
