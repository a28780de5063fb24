-- SPDX-License-Identifier: Apache-2.0
use Rattle.mlock.proofs.LockWords.{length}

abbrev pub decreases-make_room_above : Rattle.mlock.proofs.below.+make_room_above.Given.decreases-make_room_above
decreases-make_room_above l = length l.name.node.subscripts
