-- SPDX-License-Identifier: Apache-2.0
pub returns : Rattle.misolation.proofs.island_laws.moved_island_goes_on.Goals.returns
returns c = Rattle.misolation.proofs.IslandsTogether.moved_island_goes_on
