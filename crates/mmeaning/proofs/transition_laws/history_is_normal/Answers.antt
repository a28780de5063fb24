-- SPDX-License-Identifier: Apache-2.0
pub returns : Rattle.mmeaning.proofs.transition_laws.history_is_normal.Goals.returns
returns c = Rattle.mmeaning.proofs.Histories.history_is_normal
