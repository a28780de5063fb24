-- SPDX-License-Identifier: Apache-2.0
pub returns : Rattle.mgrammar.proofs.grammar_laws.later_languages_read.Goals.returns
returns c = Rattle.mgrammar.proofs.ReadingLanguages.later_languages_read
