-- SPDX-License-Identifier: Apache-2.0
use Rattle.mstore.proofs.Words.{◌≡◌, ◌≤◌, state, doubt_of, IsIdle, Stays}
use Rattle.mstore.proofs.opening.takes_each.Given as goal

abbrev pub invariant-loop-number : goal.invariant-loop-number
invariant-loop-number g l = record {
  order : doubt_of g.S.Store l.initial.conn ≤ doubt_of g.S.Store l.conn;
  stays : doubt_of g.S.Store l.conn ≡ 0 → IsIdle (state g.S.Store l.initial.conn) → Stays (state g.S.Store l.initial.conn) (state g.S.Store l.conn);
}
