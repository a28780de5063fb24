-- SPDX-License-Identifier: Apache-2.0
pub returns : Rattle.misolation.proofs.alike_laws.same_entries_agree.Goals.returns
returns c = Rattle.misolation.proofs.EntriesAlike.same_entries_agree
