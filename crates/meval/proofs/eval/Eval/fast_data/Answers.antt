-- SPDX-License-Identifier: Apache-2.0
use Rattle.meval.proofs.EvalLaws.{[], ◌∷◌, sym, decides_subscripts, give, ◌>>=◌, ap₂, pos, is_value, is_above, whole_text, data_number, status_at, status_view}
use Rattle.meval.proofs.EvalLaws.{evaluates_then, evaluates_gives, asks_locals, let_through}
use Rattle.meval.proofs.eval.Eval.fast_data.Goals as goal

pub returns : goal.returns
returns g c =
    let name = c.args.name.now in
    let xs = c.args.subscript.now ∷ [] in
    let passed = sym (rw (c.if-not-values_ok.false, c.from_ref-subscripts.ensures.value) at (decides_subscripts _ _ c.values_ok.ensures)) in
    let value = rw c.from_ref-subscripts.ensures.value at c.in_ok-data.ensures.value in
    let descendants = rw c.from_ref-subscripts.ensures.value at c.in_ok-data.ensures.descendants in
    evaluates_then (λ i p. status_at p >>= (λ status. give (whole_text (pos (data_number status))))) (let_through name xs passed)
    (evaluates_then (λ i status. give (whole_text (pos (data_number status))))
    (asks_locals (λ l. (is_value l name xs, is_above l name xs)) status_view _ (ap₂ (λ a b. (a, b)) value descendants)) (evaluates_gives _ _ _ c.data_value.ensures))
