-- SPDX-License-Identifier: Apache-2.0
use Rattle.mlock.proofs.LockWords.{length}

abbrev pub decreases-take_off_above : Rattle.mlock.proofs.below.+take_off_above.Given.decreases-take_off_above
decreases-take_off_above l = length l.name.node.subscripts
