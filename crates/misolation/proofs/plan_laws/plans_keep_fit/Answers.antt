-- SPDX-License-Identifier: Apache-2.0
pub returns : Rattle.misolation.proofs.plan_laws.plans_keep_fit.Goals.returns
returns c = Rattle.misolation.proofs.PlansInside.plans_keep_fit
