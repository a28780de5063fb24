-- SPDX-License-Identifier: Apache-2.0
pub returns : Rattle.mmeaning.proofs.program_laws.programs_take_values.Goals.returns
returns c = Rattle.mmeaning.proofs.ProgramFrames.programs_take_values
