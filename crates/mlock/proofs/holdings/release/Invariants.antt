-- SPDX-License-Identifier: Apache-2.0
use Rattle.mlock.proofs.LockWords.{◌≡◌, ◌-◌, ◌≤◌, length, released, locks_of, Kept}
use Rattle.mlock.proofs.Moves.{NoneBefore}
use Rattle.mlock.proofs.holdings.release.Given as goal

abbrev pub invariant-loop-index : goal.invariant-loop-index
invariant-loop-index l = record {
  kept : Kept l.holdings l.below;
  same : released (locks_of l.holdings) l.terminal ≡ released (locks_of l.initial.holdings) l.terminal;
  none : NoneBefore l.terminal l.index l.holdings.entries;
  inside : l.index ≤ length l.holdings.entries;
}

abbrev pub decreases-loop-index : goal.decreases-loop-index
decreases-loop-index l = length l.holdings.entries - l.index
