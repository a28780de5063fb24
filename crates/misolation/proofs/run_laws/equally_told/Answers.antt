-- SPDX-License-Identifier: Apache-2.0
pub returns : Rattle.misolation.proofs.run_laws.equally_told.Goals.returns
returns c = Rattle.misolation.proofs.RunsTold.equally_told
