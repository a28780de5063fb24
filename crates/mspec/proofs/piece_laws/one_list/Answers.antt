-- SPDX-License-Identifier: Apache-2.0
pub returns : Rattle.mspec.proofs.piece_laws.one_list.Goals.returns
returns c = Rattle.mspec.proofs.PieceLists.one_list
