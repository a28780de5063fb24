-- SPDX-License-Identifier: Apache-2.0
pub returns : Rattle.misolation.proofs.island_laws.whole_comes_apart.Goals.returns
returns c = Rattle.misolation.proofs.IslandsTogether.whole_comes_apart
