-- SPDX-License-Identifier: Apache-2.0
use Rattle.mstore.proofs.Words.{◌≡◌, true, sym, subst, ◌∙◌, rules, state, IsBare, doubt_of}
use Rattle.mstore.proofs.Doubting.{clean_if, sure_before, rises_on, seen_doubt, begun_doubt, inside_order, rolled_order, commit_open, order}
use Rattle.mstore.proofs.Makes.{makes_node, makes_meta, adds_version}
use Rattle.mstore.proofs.create.create_tables.Goals as goal

pub returns-in_err-execute-clause-order : goal.returns-in_err-execute-clause-order
returns-in_err-execute-clause-order g c =
    rises_on (begun_doubt g.S.Store c.args.conn.now c.transaction-tx.result.conn.now c.transaction-tx.ensures.begun)
    (rises_on (inside_order g.S.Store (c.transaction-tx.result.conn.now) (c.execute.new.self.conn.now) _ _ c.execute.result c.execute.ensures.survives.clean c.execute.ensures.ended c.execute.ensures.runs)
    (rises_on (rolled_order g.S.Store c.execute.new.self.conn.now c.drop-tx.new.self.0 c.drop-tx.ensures.survives.clean c.drop-tx.ensures.undone)
    (seen_doubt g.S.Store c.drop-tx.new.self.0 c.conn-1.given.0 (search rules))))

pub returns-in_err-execute-2-clause-order : goal.returns-in_err-execute-2-clause-order
returns-in_err-execute-2-clause-order g c =
    rises_on (begun_doubt g.S.Store c.args.conn.now c.transaction-tx.result.conn.now c.transaction-tx.ensures.begun)
    (rises_on (inside_order g.S.Store (c.transaction-tx.result.conn.now) (c.execute.new.self.conn.now) _ _ c.execute.result c.execute.ensures.survives.clean c.execute.ensures.ended c.execute.ensures.runs)
    (rises_on (inside_order g.S.Store (c.execute.new.self.conn.now) (c.execute-2.new.self.conn.now) _ _ c.execute-2.result c.execute-2.ensures.survives.clean c.execute-2.ensures.ended c.execute-2.ensures.runs)
    (rises_on (rolled_order g.S.Store c.execute-2.new.self.conn.now c.drop-tx-in_err-execute-2.new.self.0 c.drop-tx-in_err-execute-2.ensures.survives.clean c.drop-tx-in_err-execute-2.ensures.undone)
    (seen_doubt g.S.Store c.drop-tx-in_err-execute-2.new.self.0 c.conn-in_err-execute-2-1.given.0 (search rules)))))

pub returns-in_err-execute-3-clause-order : goal.returns-in_err-execute-3-clause-order
returns-in_err-execute-3-clause-order g c =
    rises_on (begun_doubt g.S.Store c.args.conn.now c.transaction-tx.result.conn.now c.transaction-tx.ensures.begun)
    (rises_on (inside_order g.S.Store (c.transaction-tx.result.conn.now) (c.execute.new.self.conn.now) _ _ c.execute.result c.execute.ensures.survives.clean c.execute.ensures.ended c.execute.ensures.runs)
    (rises_on (inside_order g.S.Store (c.execute.new.self.conn.now) (c.execute-2.new.self.conn.now) _ _ c.execute-2.result c.execute-2.ensures.survives.clean c.execute-2.ensures.ended c.execute-2.ensures.runs)
    (rises_on (inside_order g.S.Store (c.execute-2.new.self.conn.now) (c.execute-3.new.self.conn.now) _ _ c.execute-3.result c.execute-3.ensures.survives.clean c.execute-3.ensures.ended c.execute-3.ensures.runs)
    (rises_on (rolled_order g.S.Store c.execute-3.new.self.conn.now c.drop-tx-in_err-execute-3.new.self.0 c.drop-tx-in_err-execute-3.ensures.survives.clean c.drop-tx-in_err-execute-3.ensures.undone)
    (seen_doubt g.S.Store c.drop-tx-in_err-execute-3.new.self.0 c.conn-in_err-execute-3-1.given.0 (search rules))))))

pub returns-in_err-commit-clause-order : goal.returns-in_err-commit-clause-order
returns-in_err-commit-clause-order g c =
    rises_on (begun_doubt g.S.Store c.args.conn.now c.transaction-tx.result.conn.now c.transaction-tx.ensures.begun)
    (rises_on (inside_order g.S.Store (c.transaction-tx.result.conn.now) (c.execute.new.self.conn.now) _ _ c.execute.result c.execute.ensures.survives.clean c.execute.ensures.ended c.execute.ensures.runs)
    (rises_on (inside_order g.S.Store (c.execute.new.self.conn.now) (c.execute-2.new.self.conn.now) _ _ c.execute-2.result c.execute-2.ensures.survives.clean c.execute-2.ensures.ended c.execute-2.ensures.runs)
    (rises_on (inside_order g.S.Store (c.execute-2.new.self.conn.now) (c.execute-3.new.self.conn.now) _ _ c.execute-3.result c.execute-3.ensures.survives.clean c.execute-3.ensures.ended c.execute-3.ensures.runs)
    (rises_on (order (state g.S.Store c.execute-3.new.self.conn.now) (state g.S.Store c.commit.new.self.0) c.commit.ensures.survives.clean (λ clean. commit_open (state g.S.Store c.execute-3.new.self.conn.now) (state g.S.Store c.commit.new.self.0) c.commit.result (c.commit.ensures.ok clean) (c.commit.ensures.err clean)))
    (seen_doubt g.S.Store c.commit.new.self.0 c.conn-2-1.given.0 (search rules))))))

pub returns-clause-order : goal.returns-clause-order
returns-clause-order g c =
    rises_on (begun_doubt g.S.Store c.args.conn.now c.transaction-tx.result.conn.now c.transaction-tx.ensures.begun)
    (rises_on (inside_order g.S.Store (c.transaction-tx.result.conn.now) (c.execute.new.self.conn.now) _ _ c.execute.result c.execute.ensures.survives.clean c.execute.ensures.ended c.execute.ensures.runs)
    (rises_on (inside_order g.S.Store (c.execute.new.self.conn.now) (c.execute-2.new.self.conn.now) _ _ c.execute-2.result c.execute-2.ensures.survives.clean c.execute-2.ensures.ended c.execute-2.ensures.runs)
    (rises_on (inside_order g.S.Store (c.execute-2.new.self.conn.now) (c.execute-3.new.self.conn.now) _ _ c.execute-3.result c.execute-3.ensures.survives.clean c.execute-3.ensures.ended c.execute-3.ensures.runs)
    (rises_on (order (state g.S.Store c.execute-3.new.self.conn.now) (state g.S.Store c.commit.new.self.0) c.commit.ensures.survives.clean (λ clean. commit_open (state g.S.Store c.execute-3.new.self.conn.now) (state g.S.Store c.commit.new.self.0) c.commit.result (c.commit.ensures.ok clean) (c.commit.ensures.err clean)))
    (seen_doubt g.S.Store c.commit.new.self.0 c.conn-2-1.given.0 (search rules))))))

pub returns-clause-settled : goal.returns-clause-settled
returns-clause-settled g c sure =
    let same : c.commit.new.self.0 ≡ c.conn-2-1.given.0 = search rules in
    let end : doubt_of g.S.Store c.commit.new.self.0 ≡ 0 = subst (λ h. doubt_of g.S.Store h ≡ 0) (sym same) sure in
    let shows = (c.in_ok-commit.ensures.ok (clean_if (state g.S.Store c.commit.new.self.0) end)).1 in
    subst (λ h. (state g.S.Store h).now ≡ (state g.S.Store h).committed) same (shows.now_is ∙ sym shows.committed_is)

pub returns-clause-made : goal.returns-clause-made
returns-clause-made g c sure blank =
    let same : c.commit.new.self.0 ≡ c.conn-2-1.given.0 = search rules in
    let last = c.execute-3.new.self.conn.now in
    let end : doubt_of g.S.Store c.commit.new.self.0 ≡ 0 = subst (λ h. doubt_of g.S.Store h ≡ 0) (sym same) sure in
    let sure-3 : doubt_of g.S.Store last ≡ 0 = sure_before end (order (state g.S.Store c.execute-3.new.self.conn.now) (state g.S.Store c.commit.new.self.0) c.commit.ensures.survives.clean (λ clean. commit_open (state g.S.Store c.execute-3.new.self.conn.now) (state g.S.Store c.commit.new.self.0) c.commit.result (c.commit.ensures.ok clean) (c.commit.ensures.err clean))) in
    let sure-2 : doubt_of g.S.Store c.execute-2.new.self.conn.now ≡ 0 = sure_before sure-3 (inside_order g.S.Store (c.execute-2.new.self.conn.now) (c.execute-3.new.self.conn.now) _ _ c.execute-3.result c.execute-3.ensures.survives.clean c.execute-3.ensures.ended c.execute-3.ensures.runs) in
    let sure-1 : doubt_of g.S.Store c.execute.new.self.conn.now ≡ 0 = sure_before sure-2 (inside_order g.S.Store (c.execute.new.self.conn.now) (c.execute-2.new.self.conn.now) _ _ c.execute-2.result c.execute-2.ensures.survives.clean c.execute-2.ensures.ended c.execute-2.ensures.runs) in
    let one = c.in_ok-execute.ensures.runs (clean_if (state g.S.Store c.execute.new.self.conn.now) sure-1) (rw c.transaction-tx.ensures.begun) in
    let two = c.in_ok-execute-2.ensures.runs (clean_if (state g.S.Store c.execute-2.new.self.conn.now) sure-2) one.1.mode in
    let three = c.in_ok-execute-3.ensures.runs (clean_if (state g.S.Store last) sure-3) two.1.mode in
    let a = makes_node (state g.S.Store (record c.args.conn.now { in_transaction = true })) (state g.S.Store c.execute.new.self.conn.now) _ blank.schema_is (rw c.transaction-tx.ensures.begun at one.0) in
    let b = makes_meta (state g.S.Store c.execute.new.self.conn.now) (state g.S.Store c.execute-2.new.self.conn.now) _ a.0 a.1 two.0 in
    let made = adds_version (state g.S.Store c.execute-2.new.self.conn.now) (state g.S.Store last) _ b three.0 in
    let bare : IsBare (state g.S.Store last).now = record { schema_is = made.schema_is; empty = made.empty; version = (made.gives, made.one) } in
    let is = (c.in_ok-commit.ensures.ok (clean_if (state g.S.Store c.commit.new.self.0) end)).1.now_is in
    subst (λ h. IsBare (state g.S.Store h).now) same (subst IsBare (sym is) bare)
