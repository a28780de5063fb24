-- SPDX-License-Identifier: Apache-2.0
use Rattle.meval.proofs.EvalLaws.{refl, [], M15, ◌>>=◌, value_of, give_some, as_number, evaluates_then, evaluates_yielded, evaluates_fails, asks_locals}
use Rattle.meval.proofs.eval.Eval.index.Goals as goal

pub returns-in-Some : goal.returns-in-Some
unfolding value_of
returns-in-Some g c =
    let is = rw c.in-Some.is at c.own.ensures in
    evaluates_then (λ i found. give_some M15 found >>= as_number) (asks_locals (λ l. value_of l c.args.name.now []) (λ found. found) _ is) (evaluates_yielded c.number_of.ensures.number)

pub returns-in-None : goal.returns-in-None
unfolding value_of
returns-in-None g c =
    let is = rw c.in-None.is at c.own.ensures in
    evaluates_then (λ i found. give_some M15 found >>= as_number) (asks_locals (λ l. value_of l c.args.name.now []) (λ found. found) _ is) (evaluates_fails _ _ _ refl)
