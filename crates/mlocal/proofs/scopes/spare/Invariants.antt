-- SPDX-License-Identifier: Apache-2.0
use Rattle.mlocal.proofs.LocalWords.{◌≡◌, ◌++◌, take, drop, length, killed_up}
use Rattle.mlocal.proofs.scopes.spare.Given as goal

abbrev pub invariant-loop-place : goal.invariant-loop-place
invariant-loop-place l =
    (length l.levels.items ≡ length l.initial.levels.items)
    × (take l.place l.levels.items ++ killed_up l.names (drop l.place l.levels.items) ≡ killed_up l.names l.initial.levels.items)
