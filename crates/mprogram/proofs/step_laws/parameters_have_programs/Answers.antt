-- SPDX-License-Identifier: Apache-2.0
pub returns : Rattle.mprogram.proofs.step_laws.parameters_have_programs.Goals.returns
returns c = Rattle.mprogram.proofs.StepsThere.parameters_have_programs
