-- SPDX-License-Identifier: Apache-2.0
pub returns : Rattle.misolation.proofs.run_laws.told_the_same.Goals.returns
returns c = Rattle.misolation.proofs.RunsTold.told_the_same
