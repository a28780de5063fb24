-- SPDX-License-Identifier: Apache-2.0
pub returns : Rattle.misolation.proofs.plan_laws.inside_plans.Goals.returns
returns c = Rattle.misolation.proofs.PlansInside.inside_plans
