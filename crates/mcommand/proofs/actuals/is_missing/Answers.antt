-- SPDX-License-Identifier: Apache-2.0
use Rattle.mcommand.proofs.CommandWords.{refl}
use Rattle.mcommand.proofs.HandedActuals.{missing_is, value_is, name_actual_is, indirect_actual_is}
use Rattle.mcommand.proofs.Handed.{not_missing}
use Rattle.mcommand.proofs.actuals.is_missing.Goals as goal

pub returns-in-Missing : goal.returns-in-Missing
returns-in-Missing c = rw (c.in-Missing.is, missing_is) (λ h. refl, λ e. refl)

pub returns-in-Value : goal.returns-in-Value
returns-in-Value c = rw (c.in-Value.is, value_is _) (not_missing _ refl)

pub returns-in-Name : goal.returns-in-Name
returns-in-Name c = rw (c.in-Name.is, name_actual_is _) (not_missing _ refl)

pub returns-in-IndirectName : goal.returns-in-IndirectName
returns-in-IndirectName c = rw (c.in-IndirectName.is, indirect_actual_is _) (not_missing _ refl)
