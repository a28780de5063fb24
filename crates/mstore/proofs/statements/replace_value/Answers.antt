-- SPDX-License-Identifier: Apache-2.0
use Rattle.mstore.proofs.Words.{[], ◌∷◌, Blob, Row, state, Replace, sql}
use Rattle.mstore.proofs.Doubting.{clean_if, order, execute_open}
use Rattle.mstore.proofs.Putting.{replace_full, replace_puts}
use Rattle.mstore.proofs.Sound.{replace_none}
use Rattle.mstore.proofs.statements.replace_value.Goals as goal

pub returns : goal.returns
returns g c =
    let store = g.S.Store in
    let old = c.args.conn.now in
    let new = c.execute.new.self in
    let k = c.args.key.now in
    let v = c.args.value.now in
    let params : Row = Blob k ∷ Blob v ∷ [] in
    let ran = rw (c.params-to_sql.ensures, c.params-to_sql-2.ensures) at c.execute.ensures.runs in
    let limit = c.execute.ensures.survives.limit in
    let rises = order (state store old) (state store new) c.execute.ensures.survives.clean (λ clean. execute_open (state store old) (state store new) (sql Replace) params c.execute.result (ran clean)) in
    record {
      puts = replace_puts store old new k v c.requires limit rises c.execute.result ran c.met.result c.met.ensures;
      none = λ was sure. replace_none store old new was sure k v c.execute.result (ran (clean_if (state store new) sure)) c.met.result c.met.ensures;
      full = λ beneath was unlimited.
          replace_full store old new k v c.requires limit rises
          (λ is_open. (c.schema.ensures.live is_open).0) beneath was unlimited c.execute.result ran c.met.result c.met.ensures;
    }
