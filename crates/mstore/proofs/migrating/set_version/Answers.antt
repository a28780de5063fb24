-- SPDX-License-Identifier: Apache-2.0
use Rattle.mstore.proofs.Words.{◌≡◌, [], state, ExecutesInside, HasVersion, IsWorking, old_version, this_version, Set, sql}
use Rattle.mstore.proofs.Doubting.{clean_if, open_if, inside_order, inside_committed}
use Rattle.mstore.proofs.States.{carried}
use Rattle.mstore.proofs.Works.{sets_inside, version_set, one_set}
use Rattle.mstore.proofs.migrating.set_version.Goals as goal

pub returns-clause-order : goal.returns-clause-order
returns-clause-order g c = inside_order g.S.Store c.args.tx.now.conn.now c.execute.new.self.conn.now _ _ c.execute.result c.execute.ensures.survives.clean c.execute.ensures.ended c.execute.ensures.runs

pub returns-clause-committed : goal.returns-clause-committed
returns-clause-committed g c sure was =
    let new = state g.S.Store c.execute.new.self.conn.now in
    inside_committed (state g.S.Store c.args.tx.now.conn.now) new _ _ c.execute.result (open_if new sure) (c.execute.ensures.runs (clean_if new sure) was.inside)

pub returns-clause-working : goal.returns-clause-working
returns-clause-working g c sure was =
    let old = state g.S.Store c.args.tx.now.conn.now in
    let new = state g.S.Store c.execute.new.self.conn.now in
    carried (IsWorking new) (ExecutesInside 0 (sql Set) [] old new) (λ n h. (sets_inside old new was n h).0) c.execute.result (c.execute.ensures.runs (clean_if new sure) was.inside) c.done.result c.done.ensures.is_done

pub returns-clause-rows : goal.returns-clause-rows
returns-clause-rows g c sure was =
    let old = state g.S.Store c.args.tx.now.conn.now in
    let new = state g.S.Store c.execute.new.self.conn.now in
    carried (new.now.trees 0 ≡ old.now.trees 0) (ExecutesInside 0 (sql Set) [] old new) (λ n h. (sets_inside old new was n h).1) c.execute.result (c.execute.ensures.runs (clean_if new sure) was.inside) c.done.result c.done.ensures.is_done

pub returns-clause-version : goal.returns-clause-version
returns-clause-version g c sure was has only =
    let old = state g.S.Store c.args.tx.now.conn.now in
    let new = state g.S.Store c.execute.new.self.conn.now in
    carried (HasVersion new.now this_version) (ExecutesInside 0 (sql Set) [] old new)
    (λ n h. (version_set old new was n h old_version has.0, one_set old new was n h old_version has.0 has.1 only)) c.execute.result (c.execute.ensures.runs (clean_if new sure) was.inside) c.done.result c.done.ensures.is_done
