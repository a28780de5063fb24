-- SPDX-License-Identifier: Apache-2.0
use Rattle.mstore.proofs.Words.{◌≡◌, [], ◌∷◌, subst, Blob, Row, OnOk, OnErr, Executes, RemovesWithin, state, stored, IsStore, doubt_of, holds, Kill, sql}
use Rattle.mstore.proofs.Doubting.{open_if, clean_if, clean_if_shut, shut_if, order, execute_open, done_fails}
use Rattle.mstore.proofs.Sound.{kill_after, kill_open}
use Rattle.mstore.proofs.Asked.{quiet}
use Rattle.mstore.proofs.Numbers.{kill_counts}
use Rattle.mstore.proofs.Killed.{kill_causes, undone}
use Rattle.mstore.proofs.statements.remove_range.Goals as goal

pub returns : goal.returns
returns g c =
    let old = c.args.conn.now in
    let new = c.execute.new.self in
    let params : Row = Blob c.args.low.now ∷ Blob c.args.high.now ∷ [] in
    let ran = rw (c.params-to_sql.ensures, c.params-to_sql-2.ensures) at c.execute.ensures.runs in
    let after : IsStore (state g.S.Store old) → doubt_of g.S.Store new ≡ 0
    → IsStore (state g.S.Store new) × OnOk c.done.result (RemovesWithin (holds g.S.Store old) (holds g.S.Store new) c.args.low.now c.args.high.now) × OnErr c.done.result (stored g.S.Store new ≡ stored g.S.Store old) =
    λ was sure. kill_after g.S.Store old new was sure c.args.low.now c.args.high.now c.execute.result (ran (clean_if (state g.S.Store new) sure)) c.done.result c.done.ensures.is_done in
    record {
      limit = c.execute.ensures.survives.limit;
      doubt = record {
        order = order (state g.S.Store old) (state g.S.Store new) c.execute.ensures.survives.clean (λ clean. execute_open (state g.S.Store old) (state g.S.Store new) (sql Kill) params c.execute.result (ran clean));
        failed = λ was is_shut.
            done_fails (state g.S.Store old) (state g.S.Store new) (Executes (sql Kill) params (state g.S.Store old) (state g.S.Store new)) (kill_open g.S.Store old new was params)
            c.execute.result (ran (clean_if_shut (state g.S.Store new) is_shut)) c.done.result c.done.ensures.is_done (shut_if (state g.S.Store new) is_shut);
      };
      store = λ was sure. (after was sure).0;
      removed = λ was sure. (after was sure).1;
      fault = λ was sure. (after was sure).2;
      numbers = λ was sure n up.
          kill_counts (state g.S.Store old) (state g.S.Store new) was (open_if (state g.S.Store new) sure) n up c.args.low.now c.args.high.now c.execute.result (ran (clean_if (state g.S.Store new) sure));
      refused = λ beneath was unlimited.
          undone c.execute.result c.done.result
          (λ e is. kill_causes (state g.S.Store old) was.calm.schema_is was.nodes (c.schema.ensures.live (beneath.memory.is_open old.store)).0 unlimited c.args.low.now c.args.high.now (state g.S.Store new) (beneath.memory.is_open old.store)
          (quiet g.S.Store old new beneath) e (subst (Executes (sql Kill) params (state g.S.Store old) (state g.S.Store new)) is (ran (beneath.memory.clean new.store))))
          c.done.ensures.refused;
    }
