-- SPDX-License-Identifier: Apache-2.0
use Rattle.mstore.proofs.Words.{◌≡◌, [], rules, arith, refl, drop, map, subst, ◌∙◌, state, content, IsMoving}
use Rattle.std.proofs.lemmas.List.{drop_all}
use Rattle.mstore.proofs.Doubting.{sure_before, rises_on}
use Rattle.mstore.proofs.Moves.{nothing_moved, next_moved}
use Rattle.mstore.proofs.migrating.move_rows.Goals as goal

pub loop-row-init : goal.loop-row-init
loop-row-init g c = record {
  same_reference = refl;
  order = omega arith;
  committed = λ sure was. refl;
  working = λ sure was. was;
  moving = λ sure was all. nothing_moved (content (state g.S.Store c.args.tx.now.conn.now)) (map (drop 1) c.args.rows.now) all;
  version = λ sure was. refl;
}

pub loop-row-preserved : goal.loop-row-preserved
loop-row-preserved g c =
    let moved = c.in_ok-move_row.ensures in
    let was_so = c.loop-row.invariant in
    record {
      same_reference = moved.same_reference ∙ was_so.same_reference;
      order = rises_on was_so.order moved.order;
      committed = λ sure was. let early = sure_before sure moved.order in moved.committed sure (was_so.working early was) ∙ was_so.committed early was;
      working = λ sure was. moved.working sure (was_so.working (sure_before sure moved.order) was);
      moving =
          λ sure was all.
          let early = sure_before sure moved.order in
          next_moved (content (state g.S.Store c.args.tx.now.conn.now)) (state g.S.Store c.loop-row.tx.conn.now) (state g.S.Store c.move_row.new.tx.conn.now) c.args.rows.now c.loop-row.row-index c.row-item.result all c.loop-row-test.true c.row-item.is
          (was_so.moving early was all) (moved.moved sure (was_so.working early was));
      version = λ sure was. let early = sure_before sure moved.order in (moved.moved sure (was_so.working early was)).version ∙ was_so.version early was;
    }

pub returns-in_err-move_row-clause-order : goal.returns-in_err-move_row-clause-order
returns-in_err-move_row-clause-order g c = rises_on c.loop-row.invariant.order c.move_row.ensures.order

pub returns-in_err-move_row-clause-committed : goal.returns-in_err-move_row-clause-committed
returns-in_err-move_row-clause-committed g c sure was =
    let early = sure_before sure c.move_row.ensures.order in
    c.move_row.ensures.committed sure (c.loop-row.invariant.working early was) ∙ c.loop-row.invariant.committed early was

pub returns-clause-moved : goal.returns-clause-moved
returns-clause-moved g c sure was all =
    let none : drop c.loop-row.row-index c.args.rows.now ≡ [] = drop_all c.loop-row.row-index c.args.rows.now (search rules) in
    subst (λ l. IsMoving (content (state g.S.Store c.args.tx.now.conn.now)) (content (state g.S.Store c.loop-row.tx.conn.now)) (map (drop 1) l)) none (c.loop-row.invariant.moving sure was all)
