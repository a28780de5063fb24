-- SPDX-License-Identifier: Apache-2.0
pub returns : Rattle.mgrammar.proofs.grammar_laws.told_of_its_tree.Goals.returns
returns c = Rattle.mgrammar.proofs.ReadingRoutines.told_of_its_tree
