-- SPDX-License-Identifier: Apache-2.0
use Rattle.mstore.proofs.Words.{[], ◌∷◌, subst, Blob, state, Get, sql, QueriesRow, ShowsValue, content}
use Rattle.mstore.proofs.Texts.{get_is, get_command}
use Rattle.mstore.proofs.Gets.{gets, gets_none}
use Rattle.mstore.proofs.Doubting.{clean_if, clean_if_shut, shut_if, order, query_row_open, found_fails}
use Rattle.mstore.proofs.Sound.{query_keeps}
use Rattle.mstore.proofs.Asked.{get_causes, unrefused}
use Rattle.mstore.proofs.States.{shows_found, asks_plain}
use Rattle.mstore.proofs.statements.find_value.Goals as goal

pub returns-clause-doubt : goal.returns-clause-doubt
returns-clause-doubt g c =
    let old = state g.S.Store c.args.conn.now in
    let new = state g.S.Store c.query_row.new.self in
    let asked = rw c.params-to_sql.ensures at c.query_row.ensures.row in
    record {
      order = order old new c.query_row.ensures.survives.clean (λ clean. query_row_open old new (sql Get) (Blob c.args.key.now ∷ []) c.query_row.result (asked clean));
      failed = λ was is_shut.
          found_fails old new (sql Get) (Blob c.args.key.now ∷ []) (asks_plain Get get_command get_is old was.calm.schema_is) c.query_row.result (asked (clean_if_shut new is_shut)) c.found.result c.found.ensures.row (shut_if new is_shut);
    }

pub returns-clause-kept : goal.returns-clause-kept
returns-clause-kept g c was sure =
    let new = c.query_row.new.self in
    query_keeps g.S.Store c.args.conn.now new was sure (sql Get) (Blob c.args.key.now ∷ []) c.query_row.result get_is.1 (rw c.params-to_sql.ensures at (c.query_row.ensures.row (clean_if (state g.S.Store new) sure)))

pub returns-clause-found : goal.returns-clause-found
returns-clause-found g c was sure =
    let old = state g.S.Store c.args.conn.now in
    let new = state g.S.Store c.query_row.new.self in
    let key = c.args.key.now in
    shows_found (ShowsValue (content old key)) (QueriesRow (sql Get) (Blob key ∷ []) old new) (gets_none old new key was) (λ row. gets old new key row was)
    c.query_row.result (rw c.params-to_sql.ensures at (c.query_row.ensures.row (clean_if new sure))) c.found.result c.found.ensures.row

pub returns-clause-store : goal.returns-clause-store
returns-clause-store g c beneath was unlimited =
    let old = c.args.conn.now in
    let new = c.query_row.new.self in
    let ran = rw c.params-to_sql.ensures at (c.query_row.ensures.row (beneath.memory.clean new.store)) in
    unrefused c.query_row.result c.found.result
    (λ e is. get_causes g.S.Store old new beneath was unlimited c.args.key.now e (subst (QueriesRow (sql Get) (Blob c.args.key.now ∷ []) (state g.S.Store old) (state g.S.Store new)) is ran))
    c.found.ensures.refused c.found.ensures.none
