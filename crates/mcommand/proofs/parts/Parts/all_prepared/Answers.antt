-- SPDX-License-Identifier: Apache-2.0
use Rattle.mcommand.proofs.CommandLaws.{map, arith, refl, Vec, Global, none_left, target_tree, Prepared, prepared_view, does_gives, does_wanting, item_then}
use Rattle.mcommand.proofs.CommandLaws.{item_stopped}
use Rattle.std.proofs.lemmas.List.{map_push}
use Rattle.mmeaning.specs.LineMeaning as meaning
use Rattle.mcommand.proofs.parts.Parts.all_prepared.Goals as goal

pub loop-target-init : goal.loop-target-init
loop-target-init g c = λ r p k. rw c.in_ok-all.ensures.items at k

pub returns-in_err-prepared : goal.returns-in_err-prepared
returns-in_err-prepared g c =
    c.loop-target.invariant _ _
    (item_stopped meaning.all_prepared meaning.prepared target_tree (λ i ps t ts. refl) (λ (ps : Vec Prepared Global). map prepared_view ps.items) c.args.targets.now c.loop-target.target-index c.target-item.result _ c.loop-target-test.true c.target-item.is
    c.in_err-prepared.ensures c.from_residual-in_err-prepared.ensures)

pub returns-in_err-push : goal.returns-in_err-push
returns-in_err-push g c =
    c.loop-target.invariant _ _
    (item_then meaning.all_prepared meaning.prepared target_tree (λ i ps t ts. refl) (λ (ps : Vec Prepared Global). map prepared_view ps.items) c.args.targets.now c.loop-target.target-index c.target-item.result _ c.loop-target-test.true c.target-item.is c.in_ok-prepared.prepared c.in_ok-prepared.ensures
    (does_wanting _ _ _ c.from_residual-in_err-push.ensures refl refl refl refl))

pub loop-target-preserved : goal.loop-target-preserved
loop-target-preserved g c =
    λ r p k.
    let k = rw (c.in_ok-push.ensures.items, map_push prepared_view c.loop-target.all.items c.in_ok-prepared.prepared) at k in
    c.loop-target.invariant r p
    (item_then meaning.all_prepared meaning.prepared target_tree (λ i ps t ts. refl) (λ (ps : Vec Prepared Global). map prepared_view ps.items) c.args.targets.now c.loop-target.target-index c.target-item.result _ c.loop-target-test.true c.target-item.is c.in_ok-prepared.prepared c.in_ok-prepared.ensures k)

pub returns : goal.returns
returns g c =
    let leads = rw (none_left c.loop-target.target-index c.args.targets.now c.loop-target-test.false) at c.loop-target.invariant in
    leads _ _ (does_gives (map prepared_view c.loop-target.all.items) (λ (ps : Vec Prepared Global). map prepared_view ps.items) c.loop-target.all refl)
