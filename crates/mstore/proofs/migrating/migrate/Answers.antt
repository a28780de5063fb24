-- SPDX-License-Identifier: Apache-2.0
use Rattle.mstore.proofs.Words.{◌≡◌, rules, ◌∙◌, sym, subst, state, doubt_of, IsStore, IsUntouched, IsMigrated}
use Rattle.mstore.proofs.Doubting.{clean_if, open_if, sure_before, rises_on, seen_doubt, begun_doubt, rolled_order, commit_open, order}
use Rattle.mstore.proofs.Migrated.{starts, starts_shown, still_old, still_only, ends_store, ends_migrated, given_up, not_committed, on_err}
use Rattle.mstore.proofs.migrating.migrate.Goals as goal

pub returns-in-Ok-clause-store : goal.returns-in-Ok-clause-store
returns-in-Ok-clause-store g c sure was shown =
    let same : c.commit.new.self.0 ≡ c.conn-2-1.given.0 = search rules in
    let ends : doubt_of g.S.Store c.commit.new.self.0 ≡ 0 = subst (λ h. doubt_of g.S.Store h ≡ 0) (sym same) sure in
    let lasts : doubt_of g.S.Store c.set_version.new.tx.conn.now ≡ 0 = sure_before ends (order (state g.S.Store c.set_version.new.tx.conn.now) (state g.S.Store c.commit.new.self.0) c.commit.ensures.survives.clean (λ clean. commit_open (state g.S.Store c.set_version.new.tx.conn.now) (state g.S.Store c.commit.new.self.0) c.commit.result (c.commit.ensures.ok clean) (c.commit.ensures.err clean))) in
    let mids : doubt_of g.S.Store c.move_rows.new.tx.conn.now ≡ 0 = sure_before lasts c.in_ok-set_version.ensures.order in
    let last = c.set_version.new.tx.conn.now in
    let end = c.commit.new.self.0 in
    let begun = c.transaction-tx.ensures.begun in
    let begins = starts g.S.Store c.args.conn.now c.transaction-tx.result.conn.now begun was in
    let working = c.in_ok-move_rows.ensures.working mids begins in
    let done = ends_store g.S.Store c.args.conn.now c.transaction-tx.result.conn.now begun was c.move_rows.new.tx.conn.now last end working (c.in_ok-move_rows.ensures.moved mids begins (starts_shown g.S.Store c.args.conn.now c.transaction-tx.result.conn.now begun was c.args.rows.now shown))
    (c.in_ok-set_version.ensures.working lasts working) (c.in_ok-set_version.ensures.rows lasts working)
    (c.in_ok-set_version.ensures.version lasts working (still_old g.S.Store c.args.conn.now c.transaction-tx.result.conn.now begun was c.move_rows.new.tx.conn.now (c.in_ok-move_rows.ensures.version mids begins))
    (still_only g.S.Store c.args.conn.now c.transaction-tx.result.conn.now begun was c.move_rows.new.tx.conn.now (c.in_ok-move_rows.ensures.version mids begins)))
    (c.in-Ok.ensures.ok (clean_if (state g.S.Store end) ends)).1 in
    subst (λ h. IsStore (state g.S.Store h)) same done

pub returns-in-Ok-clause-migrated : goal.returns-in-Ok-clause-migrated
returns-in-Ok-clause-migrated g c sure was shown =
    let same : c.commit.new.self.0 ≡ c.conn-2-1.given.0 = search rules in
    let ends : doubt_of g.S.Store c.commit.new.self.0 ≡ 0 = subst (λ h. doubt_of g.S.Store h ≡ 0) (sym same) sure in
    let lasts : doubt_of g.S.Store c.set_version.new.tx.conn.now ≡ 0 = sure_before ends (order (state g.S.Store c.set_version.new.tx.conn.now) (state g.S.Store c.commit.new.self.0) c.commit.ensures.survives.clean (λ clean. commit_open (state g.S.Store c.set_version.new.tx.conn.now) (state g.S.Store c.commit.new.self.0) c.commit.result (c.commit.ensures.ok clean) (c.commit.ensures.err clean))) in
    let mids : doubt_of g.S.Store c.move_rows.new.tx.conn.now ≡ 0 = sure_before lasts c.in_ok-set_version.ensures.order in
    let old = c.args.conn.now in
    let end = c.commit.new.self.0 in
    let begun = c.transaction-tx.ensures.begun in
    let begins = starts g.S.Store old c.transaction-tx.result.conn.now begun was in
    let working = c.in_ok-move_rows.ensures.working mids begins in
    let done = ends_migrated g.S.Store old c.transaction-tx.result.conn.now begun was c.move_rows.new.tx.conn.now c.set_version.new.tx.conn.now end working (c.in_ok-move_rows.ensures.moved mids begins (starts_shown g.S.Store old c.transaction-tx.result.conn.now begun was c.args.rows.now shown))
    (c.in_ok-set_version.ensures.working lasts working) (c.in_ok-set_version.ensures.rows lasts working)
    (c.in_ok-set_version.ensures.version lasts working (still_old g.S.Store old c.transaction-tx.result.conn.now begun was c.move_rows.new.tx.conn.now (c.in_ok-move_rows.ensures.version mids begins))
    (still_only g.S.Store old c.transaction-tx.result.conn.now begun was c.move_rows.new.tx.conn.now (c.in_ok-move_rows.ensures.version mids begins)))
    (c.in-Ok.ensures.ok (clean_if (state g.S.Store end) ends)).1 in
    subst (λ h. IsMigrated (state g.S.Store old) (state g.S.Store h)) same done

pub returns-in-Err-clause-untouched : goal.returns-in-Err-clause-untouched
returns-in-Err-clause-untouched g c sure was =
    let same : c.commit.new.self.0 ≡ c.conn-2-1.given.0 = search rules in
    let ends : doubt_of g.S.Store c.commit.new.self.0 ≡ 0 = subst (λ h. doubt_of g.S.Store h ≡ 0) (sym same) sure in
    let lasts : doubt_of g.S.Store c.set_version.new.tx.conn.now ≡ 0 = sure_before ends (order (state g.S.Store c.set_version.new.tx.conn.now) (state g.S.Store c.commit.new.self.0) c.commit.ensures.survives.clean (λ clean. commit_open (state g.S.Store c.set_version.new.tx.conn.now) (state g.S.Store c.commit.new.self.0) c.commit.result (c.commit.ensures.ok clean) (c.commit.ensures.err clean))) in
    let mids : doubt_of g.S.Store c.move_rows.new.tx.conn.now ≡ 0 = sure_before lasts c.in_ok-set_version.ensures.order in
    let end = c.commit.new.self.0 in
    let begun = c.transaction-tx.ensures.begun in
    let begins = starts g.S.Store c.args.conn.now c.transaction-tx.result.conn.now begun was in
    let working = c.in_ok-move_rows.ensures.working mids begins in
    let kept = c.in_ok-set_version.ensures.committed lasts working ∙ c.in_ok-move_rows.ensures.committed mids begins in
    let done = not_committed g.S.Store c.args.conn.now c.transaction-tx.result.conn.now begun was c.set_version.new.tx.conn.now end c.in-Err.error (c.in_ok-set_version.ensures.working lasts working) kept (open_if (state g.S.Store end) ends) (c.in-Err.ensures.err (clean_if (state g.S.Store end) ends)) in
    subst (λ h. IsUntouched (state g.S.Store c.args.conn.now) (state g.S.Store h)) same done

pub returns-in_err-move_rows-clause-untouched : goal.returns-in_err-move_rows-clause-untouched
returns-in_err-move_rows-clause-untouched g c sure was =
    let same : c.drop-tx.new.self.0 ≡ c.conn-1.given.0 = search rules in
    let ends : doubt_of g.S.Store c.drop-tx.new.self.0 ≡ 0 = subst (λ h. doubt_of g.S.Store h ≡ 0) (sym same) sure in
    let mids : doubt_of g.S.Store c.move_rows.new.tx.conn.now ≡ 0 = sure_before ends (rolled_order g.S.Store c.move_rows.new.tx.conn.now c.drop-tx.new.self.0 c.drop-tx.ensures.survives.clean c.drop-tx.ensures.undone) in
    let begun = c.transaction-tx.ensures.begun in
    let begins = starts g.S.Store c.args.conn.now c.transaction-tx.result.conn.now begun was in
    let done = given_up g.S.Store c.args.conn.now c.transaction-tx.result.conn.now begun was c.move_rows.new.tx.conn.now c.drop-tx.new.self.0 (c.move_rows.ensures.committed mids begins) (open_if (state g.S.Store c.drop-tx.new.self.0) ends) (c.drop-tx.ensures.undone (clean_if (state g.S.Store c.drop-tx.new.self.0) ends)) in
    on_err _ c.from_residual.result (subst (λ h. IsUntouched (state g.S.Store c.args.conn.now) (state g.S.Store h)) same done)

pub returns-in_err-set_version-clause-untouched : goal.returns-in_err-set_version-clause-untouched
returns-in_err-set_version-clause-untouched g c sure was =
    let same : c.drop-tx-in_err-set_version.new.self.0 ≡ c.conn-in_err-set_version-1.given.0 = search rules in
    let ends : doubt_of g.S.Store c.drop-tx-in_err-set_version.new.self.0 ≡ 0 = subst (λ h. doubt_of g.S.Store h ≡ 0) (sym same) sure in
    let lasts : doubt_of g.S.Store c.set_version.new.tx.conn.now ≡ 0 = sure_before ends (rolled_order g.S.Store c.set_version.new.tx.conn.now c.drop-tx-in_err-set_version.new.self.0 c.drop-tx-in_err-set_version.ensures.survives.clean c.drop-tx-in_err-set_version.ensures.undone) in
    let mids : doubt_of g.S.Store c.move_rows.new.tx.conn.now ≡ 0 = sure_before lasts c.set_version.ensures.order in
    let end = c.drop-tx-in_err-set_version.new.self.0 in
    let begins = starts g.S.Store c.args.conn.now c.transaction-tx.result.conn.now c.transaction-tx.ensures.begun was in
    let working = c.in_ok-move_rows.ensures.working mids begins in
    let kept = c.set_version.ensures.committed lasts working ∙ c.in_ok-move_rows.ensures.committed mids begins in
    let done = given_up g.S.Store c.args.conn.now c.transaction-tx.result.conn.now c.transaction-tx.ensures.begun was c.set_version.new.tx.conn.now end kept (open_if (state g.S.Store end) ends) (c.drop-tx-in_err-set_version.ensures.undone (clean_if (state g.S.Store end) ends)) in
    on_err _ c.from_residual-in_err-set_version.result (subst (λ h. IsUntouched (state g.S.Store c.args.conn.now) (state g.S.Store h)) same done)

pub returns-in-Ok-clause-order : goal.returns-in-Ok-clause-order
returns-in-Ok-clause-order g c =
    rises_on (begun_doubt g.S.Store c.args.conn.now c.transaction-tx.result.conn.now c.transaction-tx.ensures.begun)
    (rises_on c.in_ok-move_rows.ensures.order (rises_on c.in_ok-set_version.ensures.order
    (rises_on (order (state g.S.Store c.set_version.new.tx.conn.now) (state g.S.Store c.commit.new.self.0) c.commit.ensures.survives.clean (λ clean. commit_open (state g.S.Store c.set_version.new.tx.conn.now) (state g.S.Store c.commit.new.self.0) c.commit.result (c.commit.ensures.ok clean) (c.commit.ensures.err clean)))
    (seen_doubt g.S.Store c.commit.new.self.0 c.conn-2-1.given.0 (search rules)))))

pub returns-in-Err-clause-order : goal.returns-in-Err-clause-order
returns-in-Err-clause-order g c =
    rises_on (begun_doubt g.S.Store c.args.conn.now c.transaction-tx.result.conn.now c.transaction-tx.ensures.begun)
    (rises_on c.in_ok-move_rows.ensures.order (rises_on c.in_ok-set_version.ensures.order
    (rises_on (order (state g.S.Store c.set_version.new.tx.conn.now) (state g.S.Store c.commit.new.self.0) c.commit.ensures.survives.clean (λ clean. commit_open (state g.S.Store c.set_version.new.tx.conn.now) (state g.S.Store c.commit.new.self.0) c.commit.result (c.commit.ensures.ok clean) (c.commit.ensures.err clean)))
    (seen_doubt g.S.Store c.commit.new.self.0 c.conn-2-1.given.0 (search rules)))))

pub returns-in_err-move_rows-clause-order : goal.returns-in_err-move_rows-clause-order
returns-in_err-move_rows-clause-order g c =
    rises_on (begun_doubt g.S.Store c.args.conn.now c.transaction-tx.result.conn.now c.transaction-tx.ensures.begun)
    (rises_on c.move_rows.ensures.order
    (rises_on (rolled_order g.S.Store c.move_rows.new.tx.conn.now c.drop-tx.new.self.0 c.drop-tx.ensures.survives.clean c.drop-tx.ensures.undone)
    (seen_doubt g.S.Store c.drop-tx.new.self.0 c.conn-1.given.0 (search rules))))

pub returns-in_err-set_version-clause-order : goal.returns-in_err-set_version-clause-order
returns-in_err-set_version-clause-order g c =
    rises_on (begun_doubt g.S.Store c.args.conn.now c.transaction-tx.result.conn.now c.transaction-tx.ensures.begun)
    (rises_on c.in_ok-move_rows.ensures.order (rises_on c.set_version.ensures.order
    (rises_on (rolled_order g.S.Store c.set_version.new.tx.conn.now c.drop-tx-in_err-set_version.new.self.0 c.drop-tx-in_err-set_version.ensures.survives.clean c.drop-tx-in_err-set_version.ensures.undone)
    (seen_doubt g.S.Store c.drop-tx-in_err-set_version.new.self.0 c.conn-in_err-set_version-1.given.0 (search rules)))))
