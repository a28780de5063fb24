-- SPDX-License-Identifier: Apache-2.0
use Rattle.mstore.proofs.Words.{[], rules, state, Which, sql}
use Rattle.mstore.proofs.Doubting.{clean_if, open_if, order, shown_open, failed_query_open}
use Rattle.mstore.proofs.States.{failed_query_stays}
use Rattle.mstore.proofs.Versions.{finds_version, popped, version_stays}
use Rattle.mstore.proofs.opening.find_version.Goals as goal

pub returns-in-Err-clause-order : goal.returns-in-Err-clause-order
returns-in-Err-clause-order g c =
    let old = state g.S.Store c.args.conn.now in
    let new = state g.S.Store c.query_all.new.self in
    order old new c.query_all.ensures.survives.clean (λ clean. failed_query_open old new (sql Which) [] c.in-Err.error (c.in-Err.ensures.err clean))

pub returns-in-Err-clause-stays : goal.returns-in-Err-clause-stays
returns-in-Err-clause-stays g c sure calm =
    let new = state g.S.Store c.query_all.new.self in
    failed_query_stays (state g.S.Store c.args.conn.now) new calm.idle (open_if new sure) (sql Which) [] _ (c.in-Err.ensures.err (clean_if new sure))

pub returns-then-len-gt1-clause-order : goal.returns-then-len-gt1-clause-order
returns-then-len-gt1-clause-order g c =
    let old = state g.S.Store c.args.conn.now in
    let new = state g.S.Store c.query_all.new.self in
    order old new c.query_all.ensures.survives.clean (λ clean _. (shown_open old new (sql Which) [] c.in-Ok.rows.items (c.in-Ok.ensures.ok clean)).0)

pub returns-then-len-gt1-clause-stays : goal.returns-then-len-gt1-clause-stays
returns-then-len-gt1-clause-stays g c sure calm =
    let new = state g.S.Store c.query_all.new.self in
    version_stays (state g.S.Store c.args.conn.now) new c.in-Ok.rows.items calm (open_if new sure) (c.in-Ok.ensures.ok (clean_if new sure))

pub returns-clause-order : goal.returns-clause-order
returns-clause-order g c =
    let old = state g.S.Store c.args.conn.now in
    let new = state g.S.Store c.query_all.new.self in
    order old new c.query_all.ensures.survives.clean (λ clean _. (shown_open old new (sql Which) [] c.in-Ok.rows.items (c.in-Ok.ensures.ok clean)).0)

pub returns-clause-stays : goal.returns-clause-stays
returns-clause-stays g c sure calm =
    let new = state g.S.Store c.query_all.new.self in
    version_stays (state g.S.Store c.args.conn.now) new c.in-Ok.rows.items calm (open_if new sure) (c.in-Ok.ensures.ok (clean_if new sure))

pub returns-clause-found : goal.returns-clause-found
returns-clause-found g c sure calm =
    let old = state g.S.Store c.args.conn.now in
    let new = state g.S.Store c.query_all.new.self in
    finds_version old new c.in-Ok.rows.items c.pop.result calm.schema_is (c.in-Ok.ensures.ok (clean_if new sure)) (popped c.in-Ok.rows.items _ c.pop.result c.pop.ensures.items (search rules) (search rules))
