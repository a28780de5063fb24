-- SPDX-License-Identifier: Apache-2.0
use Rattle.mstore.proofs.Words.{sym, subst, state, ShowsAll}
use Rattle.mstore.proofs.Doubting.{open_if, sure_before}
use Rattle.mstore.proofs.Olden.{old_store, shown_still, migrated_from, untouched_from}
use Rattle.mstore.proofs.States.{untouched}
use Rattle.mstore.proofs.Migrated.{on_err}
use Rattle.mstore.proofs.opening.migrate_tables.Goals as goal

pub returns-in-Ok-clause-store : goal.returns-in-Ok-clause-store
returns-in-Ok-clause-store g c sure was =
    let old = c.args.conn.now in
    let mid = c.read_nodes.new.conn in
    let early = sure_before sure c.in-Ok.ensures.order in
    let stays = c.in_ok-rows.ensures.stays early was.calm in
    let rows = subst (ShowsAll (state g.S.Store mid)) (sym c.as_slice.ensures.value) (shown_still (state g.S.Store old) (state g.S.Store mid) c.in_ok-rows.rows.items stays (c.in_ok-rows.ensures.all early was.calm)) in
    let is_open = open_if (state g.S.Store old) (sure_before early c.in_ok-rows.ensures.order) in
    c.in-Ok.ensures.store sure (old_store g.S.Store old mid is_open was stays (c.in_ok-rows.ensures.numbered early was.calm) (c.in_ok-rows.ensures.nodes early was.calm)) rows

pub returns-in-Ok-clause-migrated : goal.returns-in-Ok-clause-migrated
returns-in-Ok-clause-migrated g c sure was =
    let old = c.args.conn.now in
    let mid = c.read_nodes.new.conn in
    let new = c.migrate.new.conn in
    let early = sure_before sure c.in-Ok.ensures.order in
    let stays = c.in_ok-rows.ensures.stays early was.calm in
    let rows = subst (ShowsAll (state g.S.Store mid)) (sym c.as_slice.ensures.value) (shown_still (state g.S.Store old) (state g.S.Store mid) c.in_ok-rows.rows.items stays (c.in_ok-rows.ensures.all early was.calm)) in
    let is_open = open_if (state g.S.Store old) (sure_before early c.in_ok-rows.ensures.order) in
    migrated_from (state g.S.Store old) (state g.S.Store mid) (state g.S.Store new) stays (c.in-Ok.ensures.migrated sure (old_store g.S.Store old mid is_open was stays (c.in_ok-rows.ensures.numbered early was.calm) (c.in_ok-rows.ensures.nodes early was.calm)) rows)

pub returns-clause-untouched : goal.returns-clause-untouched
returns-clause-untouched g c sure was =
    let old = c.args.conn.now in
    let mid = c.read_nodes.new.conn in
    let new = c.migrate.new.conn in
    let early = sure_before sure c.in-Err.ensures.order in
    let stays = c.in_ok-rows.ensures.stays early was.calm in
    let is_open = open_if (state g.S.Store old) (sure_before early c.in_ok-rows.ensures.order) in
    untouched_from (state g.S.Store old) (state g.S.Store mid) (state g.S.Store new) was.calm.idle stays
    (c.in-Err.ensures.untouched sure (old_store g.S.Store old mid is_open was stays (c.in_ok-rows.ensures.numbered early was.calm) (c.in_ok-rows.ensures.nodes early was.calm)))

pub returns-in_err-rows-clause-untouched : goal.returns-in_err-rows-clause-untouched
returns-in_err-rows-clause-untouched g c sure was =
    on_err _ c.from_residual.result (untouched (state g.S.Store c.args.conn.now) (state g.S.Store c.read_nodes.new.conn) was.calm.idle (c.read_nodes.ensures.stays sure was.calm))
