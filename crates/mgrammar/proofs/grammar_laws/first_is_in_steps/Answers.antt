-- SPDX-License-Identifier: Apache-2.0
pub returns : Rattle.mgrammar.proofs.grammar_laws.first_is_in_steps.Goals.returns
returns c = Rattle.mgrammar.proofs.StepsEarly.first_is_in_steps
