-- SPDX-License-Identifier: Apache-2.0
use Rattle.moperator.proofs.OperatorWords.{yields_then, yields_gives}
use Rattle.moperator.proofs.operators.binary.Goals as goal

pub returns-in_ok-holds-in-Is-clause-value : goal.returns-in_ok-holds-in-Is-clause-value
returns-in_ok-holds-in-Is-clause-value c = rw c.in-Is.is (yields_then _ c.in_ok-holds-in-Is.ensures (c.put-in-Is.ensures.value _ (yields_gives _ _ _ c.of_truth-in-Is.ensures)))

pub returns-in_ok-holds-in-IsNot-clause-value : goal.returns-in_ok-holds-in-IsNot-clause-value
returns-in_ok-holds-in-IsNot-clause-value c = rw c.in-IsNot.is (yields_then _ c.in_ok-holds-in-IsNot.ensures (c.put-in-IsNot.ensures.value _ (yields_gives _ _ _ c.of_truth-in-IsNot.ensures)))

pub returns-in-Join-clause-value : goal.returns-in-Join-clause-value
returns-in-Join-clause-value c =
    let k = rw c.replace-front.ensures.value at c.joined.ensures.value in
    rw c.in-Join.is (c.put.ensures.value _ k)
