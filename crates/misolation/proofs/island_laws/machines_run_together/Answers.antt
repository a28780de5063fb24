-- SPDX-License-Identifier: Apache-2.0
pub returns : Rattle.misolation.proofs.island_laws.machines_run_together.Goals.returns
returns c = Rattle.misolation.proofs.IslandsTogether.machines_run_together
