-- SPDX-License-Identifier: Apache-2.0
use Rattle.moperator.proofs.Numbers.{width_fits}
use Rattle.moperator.proofs.OperatorWords.{yields_then}
use Rattle.moperator.proofs.function_calls.justified_text.Goals as goal

pub returns : goal.returns
returns c =
    let fits = width_fits c.in_ok-width.width c.in_ok-width.ensures.below in
    let made = rw (c.as_text.ensures, c.in_ok-text.ensures, c.unwrap_or.ensures, fits) at c.justify.ensures in
    yields_then _ c.in_ok-width.ensures.whole (c.answered.ensures.value _ made)
