-- SPDX-License-Identifier: Apache-2.0
pub returns : Rattle.mspec.proofs.scope_laws.kill_except_spares.Goals.returns
returns c = Rattle.mspec.proofs.Sparing.kill_except_spares
