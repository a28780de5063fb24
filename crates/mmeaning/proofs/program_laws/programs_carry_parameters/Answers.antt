-- SPDX-License-Identifier: Apache-2.0
pub returns : Rattle.mmeaning.proofs.program_laws.programs_carry_parameters.Goals.returns
returns c = Rattle.mmeaning.proofs.ProgramArguments.programs_carry_parameters
