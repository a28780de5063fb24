-- SPDX-License-Identifier: Apache-2.0
use Rattle.mwire.proofs.WireWords.{refl, ◌∙◌, arith}
use Rattle.mwire.proofs.Visits.{by_settings, each_start, each_on}
use Rattle.mwire.proofs.connections.serve_each.Goals as goal

pub loop-number-init : goal.loop-number-init
loop-number-init g c = record { settings = refl; served = each_start _ _ _ _ _ _ _ _ (λ t. refl) (λ t. refl) }

pub returns-in-Err-clause-served : goal.returns-in-Err-clause-served
returns-in-Err-clause-served g c =
    let next = c.in-Err.ensures.served in
    (_, omega (arith, next.1), next.2, each_on _ _ _ _ _ _ _ _ _ _ _ _ _ _ c.loop-number.invariant.served (by_settings c.loop-number.invariant.settings next.3))

pub loop-number-preserved : goal.loop-number-preserved
loop-number-preserved g c =
    let next = c.in_default.ensures.served in
    record {
      settings = c.in_default.ensures.settings ∙ c.loop-number.invariant.settings;
      served = each_on _ _ _ _ _ _ _ _ _ _ _ _ _ _ c.loop-number.invariant.served (by_settings c.loop-number.invariant.settings next);
    }
