-- SPDX-License-Identifier: Apache-2.0
use Rattle.mcommand.proofs.CommandLaws.{◌≡◌, ◌≤◌, length, ◌∷◌, [], ◌++◌, List, map, arith, refl, sym, ap, ◌∙◌, append_assoc, into_iter_items, none_left}
use Rattle.mcommand.proofs.CommandLaws.{residual_is, Prepared, prepared_view, does_then, does_failed, does_gives, does_wanting, taken_front}
use Rattle.mmeaning.specs.LineMeaning as meaning
use Rattle.mcommand.proofs.parts.Parts.assign_all.Goals as goal

pub loop-prepared-init : goal.loop-prepared-init
loop-prepared-init g c = λ rest e r p k. rw e k

pub returns-in_err-copy : goal.returns-in_err-copy
returns-in_err-copy g c =
    let made : into_iter_items c.into_iter-prepared-iterator.result ≡ c.args.all.items = c.into_iter-prepared-iterator.ensures.into_iter_gives.0 in
    let front = taken_front c.into_iter-prepared-iterator.result c.loop-prepared.yielded c.loop-prepared.prepared-iterator c.loop-prepared.yielded_by in
    c.loop-prepared.invariant (into_iter_items c.loop-prepared.prepared-iterator) (sym made ∙ front) _ _ (does_wanting _ _ _ c.from_residual.ensures refl refl refl refl)

pub returns-in_err-assign : goal.returns-in_err-assign
returns-in_err-assign g c =
    let made : into_iter_items c.into_iter-prepared-iterator.result ≡ c.args.all.items = c.into_iter-prepared-iterator.ensures.into_iter_gives.0 in
    let front = taken_front c.into_iter-prepared-iterator.result c.loop-prepared.yielded c.loop-prepared.prepared-iterator c.loop-prepared.yielded_by in
    let left = into_iter_items c.next.new.self in
    let here = rw c.in_ok-copy.ensures at c.in_err-assign.ensures in
    rw (residual_is _ _ c.from_residual-in_err-assign.ensures)
    (c.loop-prepared.invariant (c.in-Some.prepared ∷ left) (sym made ∙ front ∙ ap (λ (xs : List Prepared). c.loop-prepared.yielded ++ xs) c.in-Some.ensures.steps.0) _ _
    (does_failed (λ i _. meaning.all_assigned c.args.value.now (map prepared_view left)) here))

pub loop-prepared-preserved : goal.loop-prepared-preserved
loop-prepared-preserved g c =
    let here = rw c.in_ok-copy.ensures at c.in_ok-assign.ensures in
    λ rest e r p k.
    c.loop-prepared.invariant (c.in-Some.prepared ∷ rest) (e ∙ append_assoc c.loop-prepared.yielded (c.in-Some.prepared ∷ []) rest) r p
    (does_then (λ i _. meaning.all_assigned c.args.value.now (map prepared_view rest)) here k)

pub returns : goal.returns
returns g c =
    let made : into_iter_items c.into_iter-prepared-iterator.result ≡ c.args.all.items = c.into_iter-prepared-iterator.ensures.into_iter_gives.0 in
    let front = taken_front c.into_iter-prepared-iterator.result c.loop-prepared.yielded c.loop-prepared.prepared-iterator c.loop-prepared.yielded_by in
    let it = c.loop-prepared.prepared-iterator in
    let none = c.in-None.ensures.steps.0 in
    let few : length (into_iter_items it) ≤ 0 = let ok = it.rest.ok.0 in omega (arith, ok, none) in
    c.loop-prepared.invariant [] (sym made ∙ front ∙ ap (λ (xs : List Prepared). c.loop-prepared.yielded ++ xs) (none_left 0 (into_iter_items it) few)) _ _ (does_gives tt (λ (u : Unit {0}). u) tt refl)
