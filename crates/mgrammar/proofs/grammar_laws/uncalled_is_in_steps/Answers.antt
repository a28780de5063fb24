-- SPDX-License-Identifier: Apache-2.0
pub returns : Rattle.mgrammar.proofs.grammar_laws.uncalled_is_in_steps.Goals.returns
returns c = Rattle.mgrammar.proofs.StepsUncalled.uncalled_is_in_steps
