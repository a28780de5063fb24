-- SPDX-License-Identifier: Apache-2.0
use Rattle.moperator.proofs.OperatorWords.{yields_then}
use Rattle.moperator.proofs.function_calls.formatted_canonical.Goals as goal

pub returns : goal.returns
returns c =
    let made = rw (c.as_text.ensures, c.in_ok-format.ensures) at c.format_number.ensures in
    yields_then _ c.in_ok-number.ensures (c.answered.ensures.value _ made)
