-- SPDX-License-Identifier: Apache-2.0
pub returns : Rattle.mspec.proofs.lock_laws.others_keep_locks.Goals.returns
returns c = Rattle.mspec.proofs.LockFacts.others_keep_locks
