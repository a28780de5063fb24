-- SPDX-License-Identifier: Apache-2.0
pub returns : Rattle.mgrammar.proofs.grammar_laws.reads_its_reference_in.Goals.returns
returns c = Rattle.mgrammar.proofs.ReadingLanguages.reads_its_reference_in
