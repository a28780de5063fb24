-- SPDX-License-Identifier: Apache-2.0
use Rattle.mstore.proofs.Words.{◌≡◌, AreNumbered, subst, inl, inr, pos, IsTrue, Database, state, doubt_of, old_digits, GivesVersion, OnlyGives, HasVersion}
use Rattle.mstore.proofs.Words.{ShowsNodes, HasOther, HasOtherBy, number_of, IsCalm, IsLive, IsOldCalm, Stays, old_version, this_version}
use Rattle.mstore.specs.declared.version.Version.{Version}
use Rattle.mstore.proofs.Doubting.{open_if, sure_before, rises_on}
use Rattle.mstore.proofs.Migrated.{on_err}
use Rattle.mstore.proofs.Adopts.{store_after}
use Rattle.mstore.proofs.OneVersion.{live_version}
use Rattle.mstore.proofs.Olden.{old_calm, migrated_from, untouched_from, on_err_as}
use Rattle.mstore.proofs.States.{stays_on, stays_calm, untouched}
use Rattle.mstore.proofs.Tied.{on_ok, both_ok}
use Rattle.mstore.proofs.opening.settle_tables.Goals as goal

-- the version that was read, as the arm tells it
known : (db : Database) (v w : Version) → v ≡ w → GivesVersion db (number_of v) × OnlyGives db (number_of v) → GivesVersion db (number_of w) × OnlyGives db (number_of w)
known db v w is gives = subst (λ v. GivesVersion db (number_of v) × OnlyGives db (number_of v)) is gives

pub returns-in-First : goal.returns-in-First
returns-in-First g c =
    let read = c.in_ok-read_version.ensures in
    let old = c.args.conn.now in
    let new = c.migrate_tables.new.conn in
    let early : doubt_of g.S.Store new ≡ 0 → doubt_of g.S.Store c.read_version.new.conn ≡ 0 = λ sure. sure_before sure c.migrate_tables.ensures.order in
    let first : doubt_of g.S.Store new ≡ 0 → IsTrue (state g.S.Store old).is_open = λ sure. open_if (state g.S.Store old) (sure_before (early sure) read.order) in
    let gives : doubt_of g.S.Store new ≡ 0 → IsCalm (state g.S.Store old) → GivesVersion (state g.S.Store old).now old_version × OnlyGives (state g.S.Store old).now old_version =
    λ sure calm. known (state g.S.Store old).now _ _ c.in-First.is (read.found (early sure) calm) in
    let has : doubt_of g.S.Store new ≡ 0 → IsLive (state g.S.Store old) → IsCalm (state g.S.Store old) → HasVersion (state g.S.Store old).now old_version =
    λ sure live calm. live_version g.S.Store old (pos 1) (first sure) live calm.schema_is (gives sure calm).1 (gives sure calm).0 in
    let was : doubt_of g.S.Store new ≡ 0 → IsLive (state g.S.Store old) → IsCalm (state g.S.Store old) → IsOldCalm (state g.S.Store c.read_version.new.conn) =
    λ sure live calm. old_calm g.S.Store old c.read_version.new.conn (first sure) live calm (read.stays (early sure) calm) (has sure live calm) (gives sure calm).1 in
    record {
      order = rises_on read.order c.migrate_tables.ensures.order;
      store = λ sure live calm. c.migrate_tables.ensures.store sure (was sure live calm);
      opened = λ sure live calm. on_ok c.migrate_tables.result (λ m. inr (inr (migrated_from _ _ _ (read.stays (early sure) calm) m))) (c.migrate_tables.ensures.migrated sure (was sure live calm));
      untouched = λ sure live calm. on_err_as _ _ c.migrate_tables.result (untouched_from _ _ _ calm.idle (read.stays (early sure) calm)) (c.migrate_tables.ensures.untouched sure (was sure live calm));
      version = λ sure live calm bad. absurd (c.migrate_tables.ensures.version bad);
      key = λ sure live calm bad. inr (has sure live calm, subst (λ (d : Database). HasOtherBy old_digits (d.trees 0)) (read.stays (early sure) calm).same (c.migrate_tables.ensures.key sure (was sure live calm) bad));
    }

pub returns-in-Second : goal.returns-in-Second
returns-in-Second g c =
    let a = state g.S.Store c.args.conn.now in
    let d = state g.S.Store c.test_nodes.new.conn in
    let read = c.in_ok-read_version.ensures in
    let tested = c.test_nodes.ensures in
    let early : doubt_of g.S.Store c.test_nodes.new.conn ≡ 0 → doubt_of g.S.Store c.read_version.new.conn ≡ 0 = λ sure. sure_before sure tested.order in
    let first : doubt_of g.S.Store c.test_nodes.new.conn ≡ 0 → IsTrue a.is_open = λ sure. open_if a (sure_before (early sure) read.order) in
    let stays : doubt_of g.S.Store c.test_nodes.new.conn ≡ 0 → IsCalm a → Stays a (state g.S.Store c.read_version.new.conn) = λ sure calm. read.stays (early sure) calm in
    let gives : doubt_of g.S.Store c.test_nodes.new.conn ≡ 0 → IsCalm a → GivesVersion a.now this_version × OnlyGives a.now this_version = λ sure calm. known a.now _ _ c.in-Second.is (read.found (early sure) calm) in
    let has : doubt_of g.S.Store c.test_nodes.new.conn ≡ 0 → IsLive a → IsCalm a → HasVersion a.now this_version =
    λ sure live calm. live_version g.S.Store c.args.conn.now (pos 2) (first sure) live calm.schema_is (gives sure calm).1 (gives sure calm).0 in
    let mid : doubt_of g.S.Store c.test_nodes.new.conn ≡ 0 → IsCalm a → IsCalm (state g.S.Store c.read_version.new.conn) = λ sure calm. stays_calm _ _ calm (stays sure calm) in
    let both : doubt_of g.S.Store c.test_nodes.new.conn ≡ 0 → IsCalm a → Stays a d = λ sure calm. stays_on _ _ _ (stays sure calm) (tested.stays sure (mid sure calm)) in
    record {
      order = rises_on read.order tested.order;
      store = λ sure live calm.
          on_ok c.test_nodes.result (λ it. store_after g.S.Store c.args.conn.now c.test_nodes.new.conn (first sure) live calm (has sure live calm) (both sure calm)
          (subst (λ (d : Database). AreNumbered (d.trees 0)) (stays sure calm).same it.0) (subst ShowsNodes (stays sure calm).same it.1))
          (both_ok _ _ c.test_nodes.result (tested.numbered sure (mid sure calm)) (tested.nodes sure (mid sure calm)));
      opened = λ sure live calm. on_ok c.test_nodes.result (λ _. inr (inl ((both sure calm).same, calm.schema_is, has sure live calm))) (tested.nodes sure (mid sure calm));
      untouched = λ sure live calm. on_err _ c.test_nodes.result (untouched a d calm.idle (both sure calm));
      version = λ sure live calm bad. absurd (tested.version bad);
      key = λ sure live calm bad. inl (has sure live calm, subst (λ (d : Database). HasOther (d.trees 0)) (stays sure calm).same (tested.key sure (mid sure calm) bad));
    }

pub returns-in_err-read_version-clause-untouched : goal.returns-in_err-read_version-clause-untouched
returns-in_err-read_version-clause-untouched g c sure live calm =
    on_err _ c.from_residual.result (untouched (state g.S.Store c.args.conn.now) (state g.S.Store c.read_version.new.conn) calm.idle (c.read_version.ensures.stays sure calm))
