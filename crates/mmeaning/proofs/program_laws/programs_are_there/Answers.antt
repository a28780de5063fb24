-- SPDX-License-Identifier: Apache-2.0
pub returns : Rattle.mmeaning.proofs.program_laws.programs_are_there.Goals.returns
returns c = Rattle.mmeaning.proofs.ProgramsThere.programs_are_there
