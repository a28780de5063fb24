-- SPDX-License-Identifier: Apache-2.0
use Rattle.moperator.proofs.OperatorWords.{units, as_text, sum_of, yields_then, yields_stopped}
use Rattle.std.specs.Prelude.{ℤ}
use Rattle.moperator.proofs.Numbers.{computed_outcome}
use Rattle.moperator.proofs.operators.increased.Goals as goal

pub returns-in_err-number : goal.returns-in_err-number
returns-in_err-number c = yields_stopped (λ (n : ℤ). as_text (sum_of n (units c.args.by))) c.in_err-number.ensures.number c.from_residual.ensures

pub returns : goal.returns
returns c =
    yields_then (λ (n : ℤ). as_text (sum_of n (units c.args.by))) c.in_ok-number.ensures.number (computed_outcome _ _ c.add.ensures c.computed.ensures.value)
