-- SPDX-License-Identifier: Apache-2.0
use Rattle.mlock.proofs.LockWords.{◌≡◌, ◌<◌, ◌≤◌, ℕ, false, length, get, name_eq, name_above, is_other}
use Rattle.mlock.proofs.conflict.is_held_above.Given as goal

abbrev pub invariant-loop-above : goal.invariant-loop-above
invariant-loop-above l = record {
  begins : l.below ≡ name_above (length l.below.node.subscripts) l.name;
  free : (i : ℕ) → length l.below.node.subscripts ≤ i → i < length l.name.node.subscripts → is_other l.terminal (get name_eq l.holdings (name_above i l.name)) ≡ false;
}

abbrev pub decreases-loop-above : goal.decreases-loop-above
decreases-loop-above l = length l.below.node.subscripts
