-- SPDX-License-Identifier: Apache-2.0
pub returns : Rattle.mspec.proofs.key_laws.descendants_are_ranges.Goals.returns
returns c = Rattle.mspec.proofs.KeyRanges.descendants_are_ranges
