-- SPDX-License-Identifier: Apache-2.0
pub returns : Rattle.mprogram.proofs.step_laws.programs_have_steps.Goals.returns
returns c = Rattle.mprogram.proofs.StepsThere.programs_have_steps
