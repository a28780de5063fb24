-- SPDX-License-Identifier: Apache-2.0
use Rattle.mstore.proofs.Words.{◌≡◌, ◌≤◌, List, [], Row, state, doubt_of, IsCalm, IsUnchanged, Each, sql, significant_digits}
use Rattle.sqlite.specs.Given.{HasGiven}
use Rattle.mstore.proofs.Reading.{SoFar}
use Rattle.mstore.proofs.opening.test_nodes.Given as goal

abbrev pub invariant-rows : goal.invariant-rows
invariant-rows g l = record {
  lender : l.rows.conn.ghost_name ≡ l.initial.rows.conn.ghost_name;
  order : doubt_of g.S.Store l.fn.conn ≤ doubt_of g.S.Store l.rows.conn.now;
  read : doubt_of g.S.Store l.rows.conn.now ≡ 0 → IsCalm (state g.S.Store l.fn.conn)
      → IsUnchanged (state g.S.Store l.fn.conn) (state g.S.Store l.rows.conn.now)
      × (given : List Row) × HasGiven g.S.Store (sql Each) [] l.rows.conn.now given × SoFar significant_digits given l.last;
}
