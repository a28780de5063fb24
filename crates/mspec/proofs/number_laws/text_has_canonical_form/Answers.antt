-- SPDX-License-Identifier: Apache-2.0
pub returns : Rattle.mspec.proofs.number_laws.text_has_canonical_form.Goals.returns
returns c = Rattle.mspec.proofs.CanonicalForm.text_has_canonical_form
