-- SPDX-License-Identifier: Apache-2.0
use Rattle.mcommand.proofs.CommandLaws.{arith, refl, sym, subst, Vec, Global, none_left, lock_name_act, reference_tree, standing_of, MayTake, does_evaluated}
use Rattle.mcommand.proofs.CommandLaws.{does_gives, does_wanting, item_then, item_stopped, one_more_taken, name_is}
use Rattle.mlock.specs.declared.name.LockName.{LockName}
use Rattle.mmeaning.specs.Locking as meaning
use Rattle.mcommand.proofs.parts.Parts.lock_names.Goals as goal

pub loop-reference-init : goal.loop-reference-init
loop-reference-init g c = record {
  may_take = rw c.in_ok-names.ensures.items refl;
  leads = λ r p k. rw c.in_ok-names.ensures.items at k;
}

pub returns-in_err-name-clause-does : goal.returns-in_err-name-clause-does
returns-in_err-name-clause-does g c =
    c.loop-reference.invariant.leads _ _
    (item_stopped meaning.lock_names lock_name_act reference_tree name_is (λ (ns : Vec LockName Global). ns.items) c.args.references.now c.loop-reference.reference-index c.reference-item.result _ c.loop-reference-test.true c.reference-item.is
    (does_evaluated c.in_err-name.ensures.does) c.from_residual-in_err-name.ensures)

pub returns-in_err-push-clause-does : goal.returns-in_err-push-clause-does
returns-in_err-push-clause-does g c =
    c.loop-reference.invariant.leads _ _
    (item_then meaning.lock_names lock_name_act reference_tree name_is (λ (ns : Vec LockName Global). ns.items) c.args.references.now c.loop-reference.reference-index c.reference-item.result _ c.loop-reference-test.true c.reference-item.is c.in_ok-name.name (does_evaluated c.in_ok-name.ensures.does)
    (does_wanting _ _ _ c.from_residual-in_err-push.ensures refl refl refl refl))

pub loop-reference-preserved : goal.loop-reference-preserved
loop-reference-preserved g c = record {
  may_take =
      rw c.in_ok-push.ensures.items
      (one_more_taken (standing_of c.lock_name.new.self) c.loop-reference.names.items c.in_ok-name.name
      (subst (λ b. MayTake b c.loop-reference.names.items) (sym c.in_ok-name.ensures.does.keeps.same) c.loop-reference.invariant.may_take) c.in_ok-name.ensures.«open»);
  leads = λ r p k.
      let k = rw c.in_ok-push.ensures.items at k in
      c.loop-reference.invariant.leads r p
      (item_then meaning.lock_names lock_name_act reference_tree name_is (λ (ns : Vec LockName Global). ns.items) c.args.references.now c.loop-reference.reference-index c.reference-item.result _ c.loop-reference-test.true c.reference-item.is c.in_ok-name.name (does_evaluated c.in_ok-name.ensures.does) k);
}

pub returns-clause-does : goal.returns-clause-does
returns-clause-does g c =
    let leads = rw (none_left c.loop-reference.reference-index c.args.references.now c.loop-reference-test.false) at c.loop-reference.invariant.leads in
    leads _ _ (does_gives c.loop-reference.names.items (λ (ns : Vec LockName Global). ns.items) c.loop-reference.names refl)
