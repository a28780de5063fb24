-- SPDX-License-Identifier: Apache-2.0
pub returns : Rattle.mspec.proofs.scope_laws.names_of_one_home.Goals.returns
returns c = Rattle.mspec.proofs.Homes.names_of_one_home
