-- SPDX-License-Identifier: Apache-2.0
use Rattle.mstore.proofs.Words.{[], ◌∷◌, Blob, Row, state, Add, sql}
use Rattle.mstore.proofs.Doubting.{order, execute_open}
use Rattle.mstore.proofs.Putting.{add_full, add_puts, add_some}
use Rattle.mstore.proofs.statements.add_value.Goals as goal

pub returns : goal.returns
returns g c =
    let store = g.S.Store in
    let old = c.args.conn.now in
    let new = c.execute.new.self in
    let k = c.args.key.now in
    let v = c.args.value.now in
    let params : Row = Blob k ∷ Blob v ∷ [] in
    let ran = rw (c.params-to_sql.ensures, c.params-to_sql-2.ensures) at c.execute.ensures.runs in
    let limit = c.execute.ensures.survives.limit in
    let rises = order (state store old) (state store new) c.execute.ensures.survives.clean (λ clean. execute_open (state store old) (state store new) (sql Add) params c.execute.result (ran clean)) in
    record {
      puts = add_puts store old new k v c.requires limit rises c.execute.result ran c.added.result c.added.ensures;
      some = λ beneath was unlimited.
          add_some store old new k v c.requires limit rises
          (λ is_open. (c.schema.ensures.live is_open).0) beneath was unlimited c.execute.result ran c.added.result c.added.ensures;
      full = λ beneath was unlimited.
          add_full store old new k v c.requires limit rises
          (λ is_open. (c.schema.ensures.live is_open).0) beneath was unlimited c.execute.result ran c.added.result c.added.ensures;
    }
