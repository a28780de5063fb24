-- SPDX-License-Identifier: Apache-2.0
use Rattle.meval.proofs.EvalLaws.{[], ◌∷◌, sym, decides_subscripts, put_at, evaluates_then, let_through}
use Rattle.meval.proofs.eval.Eval.fast_put.Goals as goal

pub returns : goal.returns
returns g c =
    let xs = c.args.subscript.now ∷ [] in
    let passed = sym (rw (c.if-not-values_ok.false, c.from_ref-subscripts.ensures.value) at (decides_subscripts _ _ c.values_ok.ensures)) in
    let does = rw c.from_ref-subscripts.ensures.value at c.set_local.ensures in
    evaluates_then (λ i p. put_at p c.args.value) (let_through c.args.name.now xs passed) does
