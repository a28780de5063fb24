-- SPDX-License-Identifier: Apache-2.0
pub returns : Rattle.misolation.proofs.history_laws.agreeing_replies.Goals.returns
returns c = Rattle.misolation.proofs.PartsAlone.agreeing_replies
