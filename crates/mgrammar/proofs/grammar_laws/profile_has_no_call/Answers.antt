-- SPDX-License-Identifier: Apache-2.0
pub returns : Rattle.mgrammar.proofs.grammar_laws.profile_has_no_call.Goals.returns
returns c = Rattle.mgrammar.proofs.ProfileCalls.profile_has_no_call
