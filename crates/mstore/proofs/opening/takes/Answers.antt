-- SPDX-License-Identifier: Apache-2.0
use Rattle.mstore.proofs.Words.{[], subst, IsNotRun, state}
use Rattle.mstore.proofs.Doubting.{clean_if, open_if, order}
use Rattle.mstore.proofs.Taken.{prepare_stays, prepare_open, not_taken}
use Rattle.mstore.proofs.opening.takes.Goals as goal
use Rattle.mstore.proofs.opening.takes.Goals.{in-Ok, in-Err-SqlInputError, in-Err}

pub returns-clause-order : goal.returns-clause-order
returns-clause-order g c =
    let old = state g.S.Store c.args.conn.now in
    let new = state g.S.Store c.prepare.new.self in
    order old new c.prepare.ensures.survives.clean (λ clean. prepare_open _ old new c.args.text.now c.prepare.result (c.prepare.ensures.ok clean) (c.prepare.ensures.err clean))

pub returns-clause-stays : goal.returns-clause-stays
returns-clause-stays g c sure idle =
    let new = state g.S.Store c.prepare.new.self in
    prepare_stays _ (state g.S.Store c.args.conn.now) new c.args.text.now c.prepare.result idle (open_if new sure) (c.prepare.ensures.ok (clean_if new sure)) (c.prepare.ensures.err (clean_if new sure))

pub returns-clause-other : goal.returns-clause-other
returns-clause-other g c sure =
    let new = state g.S.Store c.prepare.new.self in
    elim c.match-prepare.branch [
      | in-Ok w ↦ rw w.result-is (λ e. absurd cc)
      | in-Err-SqlInputError w ↦ rw w.result-is (λ _. not_taken (state g.S.Store c.args.conn.now) new c.args.text.now w.in-Err-SqlInputError.field-0-0
          (subst (IsNotRun (state g.S.Store c.args.conn.now) new c.args.text.now []) w.in-Err-SqlInputError.field-0-is (w.in-Err-SqlInputError.ensures.err (clean_if new sure) [])))
      | in-Err w ↦ rw w.result-is tt
    ]
