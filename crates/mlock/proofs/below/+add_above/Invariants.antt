-- SPDX-License-Identifier: Apache-2.0
use Rattle.mlock.proofs.LockWords.{length}

abbrev pub decreases-add_above : Rattle.mlock.proofs.below.+add_above.Given.decreases-add_above
decreases-add_above l = length l.name.node.subscripts
