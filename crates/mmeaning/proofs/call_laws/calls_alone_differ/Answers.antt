-- SPDX-License-Identifier: Apache-2.0
pub returns : Rattle.mmeaning.proofs.call_laws.calls_alone_differ.Goals.returns
returns c = Rattle.mmeaning.proofs.Uncalled.calls_alone_differ
