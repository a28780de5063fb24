-- SPDX-License-Identifier: Apache-2.0
pub returns : Rattle.mgrammar.proofs.grammar_laws.reads_its_name.Goals.returns
returns c = Rattle.mgrammar.proofs.ReadingIndirectTexts.reads_its_name
