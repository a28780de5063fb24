-- SPDX-License-Identifier: Apache-2.0
use Rattle.meval.proofs.EvalWords.{refl, sym, decides_subscripts}
use Rattle.meval.proofs.place.Subscripts.new.Goals as goal

pub returns-clause-when : goal.returns-clause-when
returns-clause-when c =
    let is = rw (c.if-not-values_ok.false, c.as_slice.ensures) at (decides_subscripts _ _ c.values_ok.ensures) in
    (λ some. sym is, λ test. refl)
