-- SPDX-License-Identifier: Apache-2.0
use Rattle.mlock.proofs.LockWords.{length}

abbrev pub decreases-count_all : Rattle.mlock.proofs.locks.Locks.+count_all.Given.decreases-count_all
decreases-count_all l = length l.names.now
