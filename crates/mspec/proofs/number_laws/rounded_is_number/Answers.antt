-- SPDX-License-Identifier: Apache-2.0
pub returns : Rattle.mspec.proofs.number_laws.rounded_is_number.Goals.returns
returns c = Rattle.mspec.proofs.NearestLaws.rounded_is_number
