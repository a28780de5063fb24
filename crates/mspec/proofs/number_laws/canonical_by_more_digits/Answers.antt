-- SPDX-License-Identifier: Apache-2.0
pub returns : Rattle.mspec.proofs.number_laws.canonical_by_more_digits.Goals.returns
returns c = Rattle.mspec.proofs.TextLaws.canonical_by_more_digits
