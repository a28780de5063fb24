-- SPDX-License-Identifier: Apache-2.0
pub returns : Rattle.mmeaning.proofs.program_laws.steps_find.Goals.returns
returns c = Rattle.mmeaning.proofs.ProgramSteps.steps_find
