-- SPDX-License-Identifier: Apache-2.0
pub returns : Rattle.mspec.proofs.scope_laws.formals_are_bound.Goals.returns
returns c = Rattle.mspec.proofs.Formals.formals_are_bound
