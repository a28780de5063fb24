-- SPDX-License-Identifier: Apache-2.0
pub returns : Rattle.mgrammar.proofs.grammar_laws.one_routine_tree.Goals.returns
returns c = Rattle.mgrammar.proofs.ReadingRoutines.one_routine_tree
