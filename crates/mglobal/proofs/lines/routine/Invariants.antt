-- SPDX-License-Identifier: Apache-2.0
use Rattle.mglobal.proofs.GlobalWords.{◌≡◌, ◌≤◌, ◌++◌, length, true, DoubtsOver, lines_of, IsAscii, AreHeld, lines_behind}
use Rattle.mglobal.proofs.PlacesLeft.{places_left}
use Rattle.mglobal.proofs.lines.routine.Given as goal

-- the lines so far, and those after the place, are all
abbrev pub invariant-loop-place : goal.invariant-loop-place
invariant-loop-place g l = record {
  place : length l.place ≤ 255;
  ascii : IsAscii l.place;
  doubt : DoubtsOver g.S.NodeStore l.initial.store l.store true;
  same : g.S.NodeStore.doubt l.store ≡ 0 → g.S.NodeStore.content l.store ≡ g.S.NodeStore.content l.initial.store;
  lines : g.S.NodeStore.doubt l.store ≡ 0 → AreHeld (g.S.NodeStore.content l.initial.store) → l.lines.items ++ lines_behind (g.S.NodeStore.content l.initial.store) l.account l.name l.place ≡ lines_of (g.S.NodeStore.content l.initial.store) l.account l.name;
}

-- each place is after the one before
abbrev pub decreases-loop-place : goal.decreases-loop-place
decreases-loop-place g l = places_left l.place
