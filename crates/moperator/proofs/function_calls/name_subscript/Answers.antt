-- SPDX-License-Identifier: Apache-2.0
use Rattle.moperator.proofs.Numbers.{width_fits}
use Rattle.moperator.proofs.OperatorWords.{yields_then}
use Rattle.moperator.proofs.function_calls.name_subscript.Goals as goal

pub returns : goal.returns
returns c =
    let fits = width_fits c.in_ok-number.number c.in_ok-number.ensures.below in
    let taken = rw (c.unwrap_or.ensures, fits) at c.name_part.ensures in
    yields_then _ c.in_ok-number.ensures.whole taken
