-- SPDX-License-Identifier: Apache-2.0
use Rattle.mstore.proofs.Words.{[], ◌∷◌, subst, Blob, Row, state, Step, sql, QueriesRow, ShowsKey, content, is_down}
use Rattle.mstore.proofs.Texts.{step_is, step_command}
use Rattle.mstore.proofs.Steps.{steps, steps_none}
use Rattle.mstore.proofs.Doubting.{answered_open, clean_if, clean_if_shut, shut_if, order, query_row_open, found_fails}
use Rattle.mstore.proofs.Sound.{query_keeps}
use Rattle.mstore.proofs.Asked.{step_causes, unrefused}
use Rattle.mstore.proofs.States.{shows_found, asks_plain}
use Rattle.mstore.proofs.statements.find_key.Goals as goal

pub returns-clause-doubt : goal.returns-clause-doubt
returns-clause-doubt g c =
    let old = state g.S.Store c.args.conn.now in
    let new = state g.S.Store c.query_row.new.self in
    let down = is_down c.args.direction in
    let params : Row = Blob c.args.low.now ∷ Blob c.args.high.now ∷ [] in
    let asked = rw (c.step.ensures, c.params-to_sql.ensures, c.params-to_sql-2.ensures) at c.query_row.ensures.row in
    record {
      order = order old new c.query_row.ensures.survives.clean (λ clean. query_row_open old new (sql (Step down)) params c.query_row.result (asked clean));
      failed = λ was is_shut.
          found_fails old new (sql (Step down)) params (asks_plain (Step down) (step_command down) (step_is down) old was.calm.schema_is) c.query_row.result (asked (clean_if_shut new is_shut)) c.found.result c.found.ensures.row (shut_if new is_shut);
    }

pub returns-clause-kept : goal.returns-clause-kept
returns-clause-kept g c was sure =
    let new = c.query_row.new.self in
    let down = is_down c.args.direction in
    query_keeps g.S.Store c.args.conn.now new was sure (sql (Step down)) (Blob c.args.low.now ∷ Blob c.args.high.now ∷ []) c.query_row.result (step_is down).1
    (rw (c.step.ensures, c.params-to_sql.ensures, c.params-to_sql-2.ensures) at (c.query_row.ensures.row (clean_if (state g.S.Store new) sure)))

pub returns-clause-found : goal.returns-clause-found
returns-clause-found g c was sure =
    let old = state g.S.Store c.args.conn.now in
    let new = state g.S.Store c.query_row.new.self in
    let down = is_down c.args.direction in
    let low = c.args.low.now in
    let high = c.args.high.now in
    shows_found (ShowsKey down (content old) low high) (QueriesRow (sql (Step down)) (Blob low ∷ Blob high ∷ []) old new)
    (steps_none down old new was low high) (steps down old new was low high) c.query_row.result
    (rw (c.step.ensures, c.params-to_sql.ensures, c.params-to_sql-2.ensures) at (c.query_row.ensures.row (clean_if new sure))) c.found.result c.found.ensures.row

pub returns-clause-store : goal.returns-clause-store
returns-clause-store g c beneath was unlimited =
    let old = c.args.conn.now in
    let new = c.query_row.new.self in
    let down = is_down c.args.direction in
    let params : Row = Blob c.args.low.now ∷ Blob c.args.high.now ∷ [] in
    let ran = rw (c.step.ensures, c.params-to_sql.ensures, c.params-to_sql-2.ensures) at (c.query_row.ensures.row (beneath.memory.clean new.store)) in
    unrefused c.query_row.result c.found.result
    (λ e is. step_causes g.S.Store old new beneath was unlimited down c.args.low.now c.args.high.now e (subst (QueriesRow (sql (Step down)) params (state g.S.Store old) (state g.S.Store new)) is ran))
    c.found.ensures.refused c.found.ensures.none

pub returns-clause-answered : goal.returns-clause-answered
returns-clause-answered g c is_shut =
    let old = state g.S.Store c.args.conn.now in
    let new = state g.S.Store c.query_row.new.self in
    let down = is_down c.args.direction in
    let params : Row = Blob c.args.low.now ∷ Blob c.args.high.now ∷ [] in
    let asked = rw (c.step.ensures, c.params-to_sql.ensures, c.params-to_sql-2.ensures) at c.query_row.ensures.row in
    answered_open old new (sql (Step down)) params c.query_row.result (asked (clean_if_shut new is_shut)) c.found.result c.found.ensures.row (shut_if new is_shut)
