-- SPDX-License-Identifier: Apache-2.0
use Rattle.mcommand.proofs.CommandLaws.{◌≡◌, Bool, true, Take, refl, sym, subst, give, ask, standing_of, does_then, does_gives, does_refuse}
use Rattle.std.specs.Prelude.{false}
use Rattle.std.specs.List.{list_all}
use Rattle.mmeaning.specs.Shared.{may_lock}
use Rattle.mcommand.proofs.parts.Parts.carry_none.Goals as goal

pub returns-in-Anew-clause-does : goal.returns-in-Anew-clause-does
returns-in-Anew-clause-does g c =
    let closed =
    subst (λ e. list_all (may_lock (standing_of e).settings (standing_of e).account) c.args.names.now ≡ false)
    (sym c.release.ensures.eval) c.requires in
    rw c.in-Anew.is (does_then (λ i _. ask (Take c.args.names.now)) c.release.ensures.does (does_refuse c.args.names.now closed))

pub returns-in-Adding-clause-does : goal.returns-in-Adding-clause-does
returns-in-Adding-clause-does g c = rw c.in-Adding.is (does_refuse c.args.names.now c.requires)

pub returns-in-GivingBack-clause-does : goal.returns-in-GivingBack-clause-does
returns-in-GivingBack-clause-does g c =
    rw c.in-GivingBack.is (does_then (λ i _. give true) c.give_back_all.ensures.does (does_gives true (λ (b : Bool). b) true refl))
