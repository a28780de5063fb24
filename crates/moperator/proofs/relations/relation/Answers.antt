-- SPDX-License-Identifier: Apache-2.0
use Rattle.moperator.proofs.OperatorWords.{ap, ◌∙◌, is_lt, is_gt, yields_then, yields_stopped, yields_gives}
use Rattle.moperator.proofs.Truths.{both_first, both_second, either_first, either_second}
use Rattle.moperator.proofs.relations.relation.Goals as goal

pub returns-in_err-a-in-Less : goal.returns-in_err-a-in-Less
returns-in_err-a-in-Less c = rw c.in-Less.is (yields_stopped _ c.in_err-a-in-Less.ensures c.from_residual.ensures)

pub returns-in_err-a-in-Greater : goal.returns-in_err-a-in-Greater
returns-in_err-a-in-Greater c = rw c.in-Greater.is (yields_stopped _ c.in_err-a-in-Greater.ensures c.from_residual-in_err-a-in-Greater.ensures)

pub returns-in_err-a-in-Both : goal.returns-in_err-a-in-Both
returns-in_err-a-in-Both c = rw c.in-Both.is (yields_stopped _ c.in_err-a-in-Both.ensures c.from_residual-in_err-a-in-Both.ensures)

pub returns-in_err-a-in-Either : goal.returns-in_err-a-in-Either
returns-in_err-a-in-Either c = rw c.in-Either.is (yields_stopped _ c.in_err-a-in-Either.ensures c.from_residual-in_err-a-in-Either.ensures)

pub returns-in_ok-a-in-Less : goal.returns-in_ok-a-in-Less
returns-in_ok-a-in-Less c = rw c.in-Less.is (yields_then _ c.in_ok-a-in-Less.ensures (yields_gives _ _ _ (c.is_lt.ensures ∙ ap is_lt c.cmp.ensures)))

pub returns-in_ok-a-in-Greater : goal.returns-in_ok-a-in-Greater
returns-in_ok-a-in-Greater c = rw c.in-Greater.is (yields_then _ c.in_ok-a-in-Greater.ensures (yields_gives _ _ _ (c.is_gt.ensures ∙ ap is_gt c.cmp-in-Greater.ensures)))

pub returns-then-is_true : goal.returns-then-is_true
returns-then-is_true c =
    rw c.in-Both.is (yields_then _ c.in_ok-a-in-Both.ensures (yields_gives _ _ _ (both_second c.is_true.ensures c.if-is_true.true c.is_true-then-is_true.ensures)))

pub returns-else-is_true : goal.returns-else-is_true
returns-else-is_true c = rw c.in-Both.is (yields_then _ c.in_ok-a-in-Both.ensures (yields_gives _ _ _ (both_first _ c.is_true.ensures c.if-is_true.false)))

pub returns-then-is_true-2 : goal.returns-then-is_true-2
returns-then-is_true-2 c =
    rw c.in-Either.is (yields_then _ c.in_ok-a-in-Either.ensures (yields_gives _ _ _ (either_first _ c.is_true-in-Either.ensures c.if-is_true-2.true)))

pub returns-else-is_true-2 : goal.returns-else-is_true-2
returns-else-is_true-2 c =
    rw c.in-Either.is
    (yields_then _ c.in_ok-a-in-Either.ensures (yields_gives _ _ _ (either_second c.is_true-in-Either.ensures c.if-is_true-2.false c.is_true-else-is_true-2.ensures)))
