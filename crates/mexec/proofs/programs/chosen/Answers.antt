-- SPDX-License-Identifier: Apache-2.0
use Rattle.mmeaning.proofs.Yieldings.{yields_then, yields_stopped, yields_gives}
use Rattle.mexec.proofs.ExecLaws.{[], refl, expr_tree, length, suc}
use Rattle.mmeaning.specs.Programs.{of_value}
use Rattle.mexec.proofs.ProgramRuns.{past_on, past_yields}
use Rattle.mexec.proofs.programs.chosen.Goals as goal

pub returns-in_err-condition-clause-does : goal.returns-in_err-condition-clause-does
returns-in_err-condition-clause-does c = yields_stopped _ c.in_err-condition.ensures c.from_residual.ensures

pub returns-in_err-is_true-clause-does : goal.returns-in_err-is_true-clause-does
returns-in_err-is_true-clause-does c =
    yields_then _ c.in_ok-condition.ensures (yields_stopped _ c.in_err-is_true.ensures.truth c.from_residual-in_err-is_true.ensures)

pub returns-then-is_true-clause-does : goal.returns-then-is_true-clause-does
returns-then-is_true-clause-does c =
    let truth = rw c.if-is_true.true at c.in_ok-is_true.ensures.truth in
    yields_then _ c.in_ok-condition.ensures (yields_then _ truth (yields_gives _ _ c.args.at refl))

pub returns-clause-does : goal.returns-clause-does
returns-clause-does c =
    let truth = rw c.if-is_true.false at c.in_ok-is_true.ensures.truth in
    yields_then _ c.in_ok-condition.ensures (yields_then _ truth (past_yields c.args.at (suc (length (of_value (expr_tree c.args.value.now) []))) _ c.past_value.result c.past_value.ensures.past c.past_value.ensures.wants))

pub returns-clause-on : goal.returns-clause-on
returns-clause-on c = past_on c.args.at (suc (length (of_value (expr_tree c.args.value.now) []))) c.past_value.result c.past_value.ensures.past
