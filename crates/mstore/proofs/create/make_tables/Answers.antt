-- SPDX-License-Identifier: Apache-2.0
use Rattle.mstore.proofs.Words.{sym, ◌∙◌, state}
use Rattle.mstore.proofs.Doubting.{clean_if, open_if}
use Rattle.mstore.proofs.create.make_tables.Goals as goal

pub returns-in-Err-clause-untouched : goal.returns-in-Err-clause-untouched
returns-in-Err-clause-untouched g c sure idle =
    let new = state g.S.Store c.create_tables.new.conn in
    let undone = c.in-Err.ensures.undone (clean_if new sure) (open_if new sure) in
    record { now = undone.0 ∙ sym idle.settled; committed = undone.1; mode = c.create_tables.ensures.ended ∙ sym idle.autocommit }
