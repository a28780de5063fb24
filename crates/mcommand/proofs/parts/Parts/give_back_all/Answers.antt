-- SPDX-License-Identifier: Apache-2.0
use Rattle.mcommand.proofs.CommandLaws.{refl, none_left, does_gives, does_give_back, next_given}
use Rattle.mcommand.proofs.parts.Parts.give_back_all.Goals as goal

pub loop-name-init : goal.loop-name-init
loop-name-init g c = record {
  eval = refl;
  leads = λ p k. k;
}

pub loop-name-preserved : goal.loop-name-preserved
loop-name-preserved g c = record {
  eval = c.loop-name.invariant.eval;
  leads = λ p k. c.loop-name.invariant.leads p (next_given c.args.names.now c.loop-name.name-index c.name-item.result c.loop-name-test.true c.name-item.is (does_give_back _ _ refl c.give_back.ensures) k);
}

pub returns-clause-does : goal.returns-clause-does
returns-clause-does g c =
    let leads = rw (none_left c.loop-name.name-index c.args.names.now c.loop-name-test.false) at c.loop-name.invariant.leads in
    leads _ (does_gives tt (λ (u : Unit {0}). u) tt refl)
