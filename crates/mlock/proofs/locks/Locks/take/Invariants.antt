-- SPDX-License-Identifier: Apache-2.0
use Rattle.mlock.proofs.LockWords.{◌≡◌, false, All, take, has_conflict, held}

abbrev pub invariant-loop-name : Rattle.mlock.proofs.locks.Locks.take.Given.invariant-loop-name
invariant-loop-name l = All (λ n. has_conflict l.self (held l.terminal n) ≡ false) (take l.name-index l.names)
