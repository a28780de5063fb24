-- SPDX-License-Identifier: Apache-2.0
pub returns : Rattle.misolation.proofs.island_laws.machines_are_islands.Goals.returns
returns c = Rattle.misolation.proofs.IslandsTogether.machines_are_islands
