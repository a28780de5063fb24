-- SPDX-License-Identifier: Apache-2.0
use Rattle.meval.proofs.EvalLaws.{value_of, give, slice_get, unwrap_or, [], evaluates_then, evaluates_gives, asks_locals}
use Rattle.meval.proofs.eval.Eval.fast_read_or.Goals as goal

pub returns-in_ok-copy-in-Some : goal.returns-in_ok-copy-in-Some
unfolding value_of
returns-in_ok-copy-in-Some g c =
    let is = rw c.in-Some.is at c.in_ok-value.ensures in
    evaluates_then (λ i found. give (unwrap_or found (unwrap_or (slice_get c.args.others 0) []))) (asks_locals (λ l. value_of l c.args.name.now c.args.subscripts.now) (λ found. found) _ is) (evaluates_gives _ _ _ c.in_ok-copy-in-Some.ensures)

pub returns-in-None : goal.returns-in-None
unfolding value_of
returns-in-None g c =
    let is = rw c.in-None.is at c.in_ok-value.ensures in
    evaluates_then (λ i found. give (unwrap_or found (unwrap_or (slice_get c.args.others 0) []))) (asks_locals (λ l. value_of l c.args.name.now c.args.subscripts.now) (λ found. found) _ is) (evaluates_gives _ _ _ c.first_or_empty.ensures)
