-- SPDX-License-Identifier: Apache-2.0
use Rattle.mstore.proofs.Words.{[], ◌∷◌, rules, Blob, Int, pos, Row, state, Ahead, sql}
use Rattle.mstore.proofs.Texts.{ahead_is}
use Rattle.mstore.proofs.FirstRows.{shows_first}
use Rattle.mstore.proofs.Doubting.{clean_if, clean_if_shut, open_clash, shut_if, order, shown_open, failed_query_open}
use Rattle.mstore.proofs.Sound.{rows_keep, no_rows_keep}
use Rattle.mstore.proofs.Asked.{ahead_causes}
use Rattle.mstore.proofs.statements.find_rows.Goals as goal

pub returns-in-Ok-clause-order : goal.returns-in-Ok-clause-order
returns-in-Ok-clause-order g c =
    let old = state g.S.Store c.args.conn.now in
    let new = state g.S.Store c.query_all.new.self in
    let params : Row = Blob c.args.low.now ∷ Blob c.args.high.now ∷ Int (pos c.args.most) ∷ [] in
    let shown = rw (c.params-to_sql.ensures, c.params-to_sql-2.ensures, c.params-to_sql-3.ensures) at c.in-Ok.ensures.ok in
    order old new c.query_all.ensures.survives.clean (λ clean _. (shown_open old new (sql Ahead) params c.in-Ok.rows.items (shown clean)).0)

pub returns-in-Err-clause-order : goal.returns-in-Err-clause-order
returns-in-Err-clause-order g c =
    let old = state g.S.Store c.args.conn.now in
    let new = state g.S.Store c.query_all.new.self in
    let params : Row = Blob c.args.low.now ∷ Blob c.args.high.now ∷ Int (pos c.args.most) ∷ [] in
    let failed = rw (c.params-to_sql.ensures, c.params-to_sql-2.ensures, c.params-to_sql-3.ensures) at c.in-Err.ensures.err in
    order old new c.query_all.ensures.survives.clean (λ clean. failed_query_open old new (sql Ahead) params c.in-Err.error (failed clean))

pub returns-in-Ok-clause-answered : goal.returns-in-Ok-clause-answered
returns-in-Ok-clause-answered g c is_shut =
    let old = state g.S.Store c.args.conn.now in
    let new = state g.S.Store c.query_all.new.self in
    let params : Row = Blob c.args.low.now ∷ Blob c.args.high.now ∷ Int (pos c.args.most) ∷ [] in
    let shown = rw (c.params-to_sql.ensures, c.params-to_sql-2.ensures, c.params-to_sql-3.ensures) at c.in-Ok.ensures.ok in
    absurd (open_clash old new (shut_if new is_shut) (shown_open old new (sql Ahead) params c.in-Ok.rows.items (shown (clean_if_shut new is_shut))).1)

pub returns-in-Ok-clause-kept : goal.returns-in-Ok-clause-kept
returns-in-Ok-clause-kept g c was sure =
    let new = c.query_all.new.self in
    let params : Row = Blob c.args.low.now ∷ Blob c.args.high.now ∷ Int (pos c.args.most) ∷ [] in
    let shown = rw (c.params-to_sql.ensures, c.params-to_sql-2.ensures, c.params-to_sql-3.ensures) at c.in-Ok.ensures.ok in
    rows_keep g.S.Store c.args.conn.now new was sure (sql Ahead) params c.in-Ok.rows.items ahead_is.1 (shown (clean_if (state g.S.Store new) sure))

pub returns-in-Err-clause-kept : goal.returns-in-Err-clause-kept
returns-in-Err-clause-kept g c was sure =
    let new = c.query_all.new.self in
    let params : Row = Blob c.args.low.now ∷ Blob c.args.high.now ∷ Int (pos c.args.most) ∷ [] in
    let failed = rw (c.params-to_sql.ensures, c.params-to_sql-2.ensures, c.params-to_sql-3.ensures) at c.in-Err.ensures.err in
    no_rows_keep g.S.Store c.args.conn.now new was sure (sql Ahead) params c.in-Err.error (failed (clean_if (state g.S.Store new) sure))

pub returns-in-Ok-clause-found : goal.returns-in-Ok-clause-found
returns-in-Ok-clause-found g c was sure =
    let old = state g.S.Store c.args.conn.now in
    let new = state g.S.Store c.query_all.new.self in
    let shown = rw (c.params-to_sql.ensures, c.params-to_sql-2.ensures, c.params-to_sql-3.ensures) at c.in-Ok.ensures.ok in
    shows_first old new was c.args.low.now c.args.high.now c.args.most c.in-Ok.rows.items (shown (clean_if new sure))

pub returns-in-Err-clause-store : goal.returns-in-Err-clause-store
returns-in-Err-clause-store g c beneath was unlimited =
    let new = c.query_all.new.self in
    let failed = rw (c.params-to_sql.ensures, c.params-to_sql-2.ensures, c.params-to_sql-3.ensures) at c.in-Err.ensures.err in
    let lack = ahead_causes g.S.Store c.args.conn.now new beneath was unlimited c.args.low.now c.args.high.now c.args.most c.in-Err.error (failed (beneath.memory.clean new.store)) in
    search rules
