-- SPDX-License-Identifier: Apache-2.0
use Rattle.mcommand.proofs.CommandLaws.{map, arith, refl, List, Vec, Global, none_left, does_gives, does_wanting, item_then, item_stopped}
use Rattle.std.proofs.lemmas.List.{map_push}
use Rattle.mspec.specs.Act.{Act}
use Rattle.mspec.specs.Scopes as scopes
use Rattle.mlocal.specs.Bindings.{binding_of}
use Rattle.mlocal.specs.declared.binding.Binding.{Binding}
use Rattle.mgrammar.specs.Grammar.{ActualTree, actuals_of}
use Rattle.mtree.specs.Tree.{actual_tree}
use Rattle.mmeaning.specs.Expression.{Inside}
use Rattle.mmeaning.specs.Parameters as meaning
use Rattle.mcommand.proofs.parts.Parts.all_handed.Goals as goal

-- the actuals of a list
abbrev all : Inside → List scopes.Binding → List ActualTree → Act (List scopes.Binding)
all i bs actuals = meaning.all_handed i bs (actuals_of actuals)

pub loop-actual-init : goal.loop-actual-init
loop-actual-init g c = λ r p k. rw c.in_ok-bindings.ensures.items at k

pub returns-in_err-binding : goal.returns-in_err-binding
returns-in_err-binding g c =
    c.loop-actual.invariant _ _
    (item_stopped all meaning.handed actual_tree (λ i bs x xs. refl) (λ (bs : Vec Binding Global). map binding_of bs.items) c.args.actuals.now c.loop-actual.actual-index c.actual-item.result _ c.loop-actual-test.true c.actual-item.is
    c.in_err-binding.ensures c.from_residual-in_err-binding.ensures)

pub returns-in_err-push : goal.returns-in_err-push
returns-in_err-push g c =
    c.loop-actual.invariant _ _
    (item_then all meaning.handed actual_tree (λ i bs x xs. refl) (λ (bs : Vec Binding Global). map binding_of bs.items) c.args.actuals.now c.loop-actual.actual-index c.actual-item.result _ c.loop-actual-test.true c.actual-item.is c.in_ok-binding.binding c.in_ok-binding.ensures
    (does_wanting _ _ _ c.from_residual-in_err-push.ensures refl refl refl refl))

pub loop-actual-preserved : goal.loop-actual-preserved
loop-actual-preserved g c =
    λ r p k.
    let k = rw (c.in_ok-push.ensures.items, map_push binding_of c.loop-actual.bindings.items c.in_ok-binding.binding) at k in
    c.loop-actual.invariant r p
    (item_then all meaning.handed actual_tree (λ i bs x xs. refl) (λ (bs : Vec Binding Global). map binding_of bs.items) c.args.actuals.now c.loop-actual.actual-index c.actual-item.result _ c.loop-actual-test.true c.actual-item.is c.in_ok-binding.binding c.in_ok-binding.ensures k)

pub returns : goal.returns
returns g c =
    let leads = rw (none_left c.loop-actual.actual-index c.args.actuals.now c.loop-actual-test.false) at c.loop-actual.invariant in
    leads _ _ (does_gives (map binding_of c.loop-actual.bindings.items) (λ (bs : Vec Binding Global). map binding_of bs.items) c.loop-actual.bindings refl)
