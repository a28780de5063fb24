-- SPDX-License-Identifier: Apache-2.0
use Rattle.meval.proofs.EvalLaws.{refl, [], M6, value_of, give_some, evaluates_then, evaluates_gives, evaluates_fails, asks_locals}
use Rattle.meval.proofs.eval.Eval.fast_lent.Goals as goal

pub returns-in-Some : goal.returns-in-Some
unfolding value_of
returns-in-Some g c =
    let is = rw c.in-Some.is at c.own.ensures in
    evaluates_then (λ i found. give_some M6 found) (asks_locals (λ l. value_of l c.args.name.now []) (λ found. found) _ is) (evaluates_gives _ _ _ refl)

pub returns-in-None : goal.returns-in-None
unfolding value_of
returns-in-None g c =
    let is = rw c.in-None.is at c.own.ensures in
    evaluates_then (λ i found. give_some M6 found) (asks_locals (λ l. value_of l c.args.name.now []) (λ found. found) _ is) (evaluates_fails _ _ _ refl)
