-- SPDX-License-Identifier: Apache-2.0
use Rattle.mstore.proofs.Words.{[], ◌∷◌, Blob, state, ExecutesInside, RanInside}
use Rattle.mstore.proofs.Doubting.{clean_if, open_if, inside_order, inside_committed}
use Rattle.mstore.proofs.States.{carried}
use Rattle.mstore.proofs.migrating.change_inside.Goals as goal

pub returns-clause-order : goal.returns-clause-order
returns-clause-order g c = inside_order g.S.Store c.args.tx.now.conn.now c.execute.new.self.conn.now _ _ c.execute.result c.execute.ensures.survives.clean c.execute.ensures.ended c.execute.ensures.runs

pub returns-clause-committed : goal.returns-clause-committed
returns-clause-committed g c sure was =
    let new = state g.S.Store c.execute.new.self.conn.now in
    inside_committed (state g.S.Store c.args.tx.now.conn.now) new _ _ c.execute.result (open_if new sure) (c.execute.ensures.runs (clean_if new sure) was.inside)

pub returns-clause-ran : goal.returns-clause-ran
returns-clause-ran g c sure was =
    let old = state g.S.Store c.args.tx.now.conn.now in
    let new = state g.S.Store c.execute.new.self.conn.now in
    let text = c.args.text.now in
    let first = c.args.first.now in
    let second = c.args.second.now in
    carried (RanInside text first second old new) (ExecutesInside 0 text (Blob first ∷ Blob second ∷ []) old new) (λ n h. (n, h)) c.execute.result
    (rw (c.params-to_sql.ensures, c.params-to_sql-2.ensures) at (c.execute.ensures.runs (clean_if new sure) was.inside)) c.done.result c.done.ensures.is_done
