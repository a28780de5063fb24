-- SPDX-License-Identifier: Apache-2.0
use Rattle.mstore.proofs.Words.{◌≡◌, ◌≤◌, drop, map, state, doubt_of, content, IsWorking, ShowContent, IsMoving}
use Rattle.mstore.proofs.migrating.move_rows.Given as goal

abbrev pub invariant-loop-row : goal.invariant-loop-row
invariant-loop-row g l = record {
  same_reference : l.tx.conn.ghost_name ≡ l.initial.tx.conn.ghost_name;
  order : doubt_of g.S.Store l.initial.tx.conn.now ≤ doubt_of g.S.Store l.tx.conn.now;
  committed : doubt_of g.S.Store l.tx.conn.now ≡ 0 → IsWorking (state g.S.Store l.initial.tx.conn.now) → (state g.S.Store l.tx.conn.now).committed ≡ (state g.S.Store l.initial.tx.conn.now).committed;
  working : doubt_of g.S.Store l.tx.conn.now ≡ 0 → IsWorking (state g.S.Store l.initial.tx.conn.now) → IsWorking (state g.S.Store l.tx.conn.now);
  moving : doubt_of g.S.Store l.tx.conn.now ≡ 0 → IsWorking (state g.S.Store l.initial.tx.conn.now) → ShowContent (content (state g.S.Store l.initial.tx.conn.now)) (map (drop 1) l.rows)
      → IsMoving (content (state g.S.Store l.initial.tx.conn.now)) (content (state g.S.Store l.tx.conn.now)) (map (drop 1) (drop l.row-index l.rows));
  version : doubt_of g.S.Store l.tx.conn.now ≡ 0 → IsWorking (state g.S.Store l.initial.tx.conn.now) → (state g.S.Store l.tx.conn.now).now.trees 2 ≡ (state g.S.Store l.initial.tx.conn.now).now.trees 2;
}
