-- SPDX-License-Identifier: Apache-2.0
use Rattle.moperator.proofs.Numbers.{whole_fits}
use Rattle.moperator.proofs.OperatorWords.{yields_then}
use Rattle.moperator.proofs.function_calls.formatted_to.Goals as goal

pub returns : goal.returns
returns c =
    let placed = whole_fits c.in_ok-places.places c.in_ok-places.ensures.below in
    let made = rw (c.as_text.ensures, c.in_ok-format.ensures, placed) at c.format_number.ensures in
    yields_then _ c.in_ok-number.ensures (yields_then _ c.in_ok-places.ensures.whole (c.answered.ensures.value _ made))
