-- SPDX-License-Identifier: Apache-2.0
pub returns : Rattle.mspec.proofs.key_laws.keys_of_subtrees_begin_alike.Goals.returns
returns c = Rattle.mspec.proofs.KeyRanges.keys_of_subtrees_begin_alike
