-- SPDX-License-Identifier: Apache-2.0
use Rattle.mstore.proofs.Words.{sym, ◌∙◌}
use Rattle.mstore.proofs.Stretches.{apart, not_second, past_range}
use Rattle.mstore.proofs.stretch.Stretch.leave_out_range.Goals as goal

pub returns-then-is_apart : goal.returns-then-is_apart
returns-then-is_apart c m next agree outside =
    let s = c.args.self.now in
    apart m next s.low.items s.high.items s.rows.items agree c.args.low.now c.args.high.now outside (sym c.is_apart.ensures ∙ c.if-is_apart.true)

pub returns : goal.returns
returns c m next agree outside =
    let s = c.args.self.now in
    c.begin_from.ensures next (past_range m next s.low.items s.high.items s.rows.items agree c.args.low.now c.args.high.now outside (not_second _ _ (sym c.is_apart.ensures ∙ c.if-is_apart.false)))
