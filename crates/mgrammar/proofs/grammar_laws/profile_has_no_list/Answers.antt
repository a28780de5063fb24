-- SPDX-License-Identifier: Apache-2.0
pub returns : Rattle.mgrammar.proofs.grammar_laws.profile_has_no_list.Goals.returns
returns c = Rattle.mgrammar.proofs.ReadingRoutines.profile_has_no_list
