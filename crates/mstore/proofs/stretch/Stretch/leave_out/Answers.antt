-- SPDX-License-Identifier: Apache-2.0
use Rattle.mstore.proofs.Words.{sym, ◌∙◌}
use Rattle.mstore.proofs.Stretches.{beyond, past_key}
use Rattle.mstore.proofs.stretch.Stretch.leave_out.Goals as goal

pub returns-then-not-holds : goal.returns-then-not-holds
returns-then-not-holds c m next agree but =
    let s = c.args.self.now in
    beyond m next s.low.items s.high.items s.rows.items agree c.args.key.now but (sym c.holds.ensures ∙ c.if-not-holds.true)

pub returns : goal.returns
returns c m next agree but =
    let s = c.args.self.now in
    c.begin_after.ensures next (past_key m next s.low.items s.high.items s.rows.items agree c.args.key.now but (sym c.holds.ensures ∙ c.if-not-holds.false))
