-- SPDX-License-Identifier: Apache-2.0
pub returns : Rattle.mmeaning.proofs.program_laws.parameters_pause.Goals.returns
returns c = Rattle.mmeaning.proofs.ProgramFrames.parameters_pause
