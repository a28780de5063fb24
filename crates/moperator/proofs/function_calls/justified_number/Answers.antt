-- SPDX-License-Identifier: Apache-2.0
use Rattle.moperator.proofs.Numbers.{width_fits, whole_fits}
use Rattle.moperator.proofs.OperatorWords.{yields_then}
use Rattle.moperator.proofs.function_calls.justified_number.Goals as goal

pub returns : goal.returns
returns c =
    let fits = width_fits c.in_ok-width.width c.in_ok-width.ensures.below in
    let placed = whole_fits c.in_ok-places.places c.in_ok-places.ensures.below in
    let made = rw (c.unwrap_or.ensures, fits, placed) at c.justify_number.ensures in
    yields_then _ c.in_ok-number.ensures (yields_then _ c.in_ok-width.ensures.whole (yields_then _ c.in_ok-places.ensures.whole (c.answered.ensures.value _ made)))
