-- SPDX-License-Identifier: Apache-2.0
pub returns : Rattle.misolation.proofs.history_laws.opening_is_fit.Goals.returns
returns c = Rattle.misolation.proofs.PartsAlone.opening_is_fit
