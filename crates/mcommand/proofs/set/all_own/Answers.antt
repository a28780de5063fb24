-- SPDX-License-Identifier: Apache-2.0
use Rattle.mcommand.proofs.CommandLaws.{◌≡◌, ◌≤◌, ◌++◌, ◌∷◌, [], List, length, map, arith, refl, sym, ap, ◌∙◌, append_assoc, into_iter_items, none_left}
use Rattle.mcommand.proofs.CommandLaws.{taken_front, Prepared, prepared_view}
use Rattle.std.proofs.Common.{append-nil}
use Rattle.mcommand.proofs.PreparedTargets.{own_pushed}
use Rattle.mcommand.proofs.set.all_own.Goals as goal

pub loop-prepared-init : goal.loop-prepared-init
loop-prepared-init c = λ left e. rw (e, c.in_ok-own.ensures.items) refl

pub loop-prepared-preserved : goal.loop-prepared-preserved
loop-prepared-preserved c = λ left e.
    rw c.in_ok-push.ensures.items
    (own_pushed c.loop-prepared.own.items c.in-Some.prepared c.in_ok-one.one left c.in_ok-one.ensures
    ∙ c.loop-prepared.invariant (c.in-Some.prepared ∷ left) (e ∙ append_assoc c.loop-prepared.yielded (c.in-Some.prepared ∷ []) left))

pub returns : goal.returns
returns c =
    let made : into_iter_items c.into_iter-prepared-iterator.result ≡ c.args.all.items = c.into_iter-prepared-iterator.ensures.into_iter_gives.0 in
    let front = taken_front c.into_iter-prepared-iterator.result c.loop-prepared.yielded c.loop-prepared.prepared-iterator c.loop-prepared.yielded_by in
    let it = c.loop-prepared.prepared-iterator in
    let none = c.in-None.ensures.steps.0 in
    let few : length (into_iter_items it) ≤ 0 = let ok = it.rest.ok.0 in omega (arith, ok, none) in
    sym (append-nil (map prepared_view c.loop-prepared.own.items))
    ∙ c.loop-prepared.invariant [] (sym made ∙ front ∙ ap (λ (xs : List Prepared). c.loop-prepared.yielded ++ xs) (none_left 0 (into_iter_items it) few))
