-- SPDX-License-Identifier: Apache-2.0
pub returns : Rattle.mmeaning.proofs.transition_laws.others_kept.Goals.returns
returns c = Rattle.mmeaning.proofs.OtherLocks.others_kept
