-- SPDX-License-Identifier: Apache-2.0
use Rattle.mstore.proofs.Words.{[], state, Each, sql}
use Rattle.mstore.proofs.Doubting.{clean_if, open_if, order, shown_open, failed_query_open}
use Rattle.mstore.proofs.States.{failed_query_stays}
use Rattle.mstore.proofs.Adopts.{all_shown, all_stays}
use Rattle.mstore.proofs.opening.read_all.Goals as goal

pub returns-in-Ok-clause-order : goal.returns-in-Ok-clause-order
returns-in-Ok-clause-order g c =
    let old = state g.S.Store c.args.conn.now in
    let new = state g.S.Store c.query_all.new.self in
    order old new c.query_all.ensures.survives.clean (λ clean _. (shown_open old new (sql Each) [] c.in-Ok.rows.items (c.in-Ok.ensures.ok clean)).0)

pub returns-in-Err-clause-order : goal.returns-in-Err-clause-order
returns-in-Err-clause-order g c =
    let old = state g.S.Store c.args.conn.now in
    let new = state g.S.Store c.query_all.new.self in
    order old new c.query_all.ensures.survives.clean (λ clean. failed_query_open old new (sql Each) [] c.in-Err.error (c.in-Err.ensures.err clean))

pub returns-in-Ok-clause-stays : goal.returns-in-Ok-clause-stays
returns-in-Ok-clause-stays g c sure calm =
    let new = state g.S.Store c.query_all.new.self in
    all_stays (state g.S.Store c.args.conn.now) new c.in-Ok.rows.items calm (open_if new sure) (c.in-Ok.ensures.ok (clean_if new sure))

pub returns-in-Ok-clause-all : goal.returns-in-Ok-clause-all
returns-in-Ok-clause-all g c sure calm =
    let new = state g.S.Store c.query_all.new.self in
    all_shown (state g.S.Store c.args.conn.now) new c.in-Ok.rows.items calm.schema_is (c.in-Ok.ensures.ok (clean_if new sure))

pub returns-in-Err-clause-stays : goal.returns-in-Err-clause-stays
returns-in-Err-clause-stays g c sure calm =
    let new = state g.S.Store c.query_all.new.self in
    failed_query_stays (state g.S.Store c.args.conn.now) new calm.idle (open_if new sure) (sql Each) [] _ (c.in-Err.ensures.err (clean_if new sure))
