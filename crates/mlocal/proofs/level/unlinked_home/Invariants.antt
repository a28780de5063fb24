-- SPDX-License-Identifier: Apache-2.0
use Rattle.mlocal.proofs.LocalWords.{◌≡◌, ◌≤◌, length, drop, Some, known_below}
use Rattle.mlocal.proofs.level.unlinked_home.Given as goal

abbrev pub invariant-loop-place : goal.invariant-loop-place
invariant-loop-place l = (l.place ≤ length l.levels) × (known_below (drop l.place l.levels) l.name ≡ Some l.name)

abbrev pub decreases-loop-place : goal.decreases-loop-place
decreases-loop-place l = l.place
