-- SPDX-License-Identifier: Apache-2.0
use Rattle.meval.proofs.EvalLaws.{[], ◌∷◌, refl, sym, decides_subscripts, M6, value_of, give_some, read_at, evaluates_then, evaluates_gives, evaluates_fails}
use Rattle.meval.proofs.EvalLaws.{asks_locals, let_through}
use Rattle.meval.proofs.eval.Eval.fast_read.Goals as goal

pub returns-in_ok-copy-in-Some : goal.returns-in_ok-copy-in-Some
unfolding value_of
returns-in_ok-copy-in-Some g c =
    let xs = c.args.subscript.now ∷ [] in
    let passed = sym (rw (c.if-not-values_ok.false, c.from_ref-subscripts.ensures.value) at (decides_subscripts _ _ c.values_ok.ensures)) in
    let is = rw (c.from_ref-subscripts.ensures.value, c.in-Some.is) at c.in_ok-value.ensures in
    evaluates_then (λ i p. read_at p) (let_through c.args.name.now xs passed)
    (evaluates_then (λ i found. give_some M6 found) (asks_locals (λ l. value_of l c.args.name.now xs) (λ found. found) _ is) (evaluates_gives _ _ _ c.in_ok-copy-in-Some.ensures))

pub returns-in-None : goal.returns-in-None
unfolding value_of
returns-in-None g c =
    let xs = c.args.subscript.now ∷ [] in
    let passed = sym (rw (c.if-not-values_ok.false, c.from_ref-subscripts.ensures.value) at (decides_subscripts _ _ c.values_ok.ensures)) in
    let is = rw (c.from_ref-subscripts.ensures.value, c.in-None.is) at c.in_ok-value.ensures in
    evaluates_then (λ i p. read_at p) (let_through c.args.name.now xs passed)
    (evaluates_then (λ i found. give_some M6 found) (asks_locals (λ l. value_of l c.args.name.now xs) (λ found. found) _ is) (evaluates_fails _ _ _ refl))
