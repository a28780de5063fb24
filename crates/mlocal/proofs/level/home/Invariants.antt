-- SPDX-License-Identifier: Apache-2.0
use Rattle.mlocal.proofs.LocalWords.{◌≡◌, ◌≤◌, length, drop, Some, unwrap_or, option_map, known_below}
use Rattle.mlocal.proofs.level.home.Given as goal

abbrev pub invariant-loop-place : goal.invariant-loop-place
invariant-loop-place l = (l.place ≤ length l.levels) × (known_below (drop l.place l.levels) l.name ≡ Some (unwrap_or (option_map (λ n. n.now) l.other) l.name))

abbrev pub decreases-loop-place : goal.decreases-loop-place
decreases-loop-place l = l.place
