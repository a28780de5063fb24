-- SPDX-License-Identifier: Apache-2.0
use Rattle.meval.proofs.EvalWords.{◌≡◌, true, false, refl, subscripts_test}
use Rattle.meval.proofs.merging.as_found.Goals as goal

pub unreachable-requires : goal.unreachable-requires
unreachable-requires c =
    let told =
    rw (c.of_vec-values.ensures, c.in_ok-texts.ensures.values, subscripts_test _ c.in_ok-texts.ensures.subs, c.in-None.is) at c.new.ensures.when in
    let clash : false ≡ true = told.1 refl in
    absurd (cc)
