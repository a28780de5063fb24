-- SPDX-License-Identifier: Apache-2.0
pub returns : Rattle.misolation.proofs.plan_laws.outside_plans.Goals.returns
returns c = Rattle.misolation.proofs.PlansInside.outside_plans
