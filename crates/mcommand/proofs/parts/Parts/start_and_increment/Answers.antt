-- SPDX-License-Identifier: Apache-2.0
use Rattle.mcommand.proofs.CommandLaws.{refl, units, Num, does_then, does_stopped, does_gives, does_evaluated}
use Rattle.mcommand.proofs.parts.Parts.start_and_increment.Goals as goal

pub returns-in_err-number : goal.returns-in_err-number
returns-in_err-number g c = does_stopped _ (does_evaluated c.in_err-number.ensures.does) c.from_residual.ensures

pub returns-in_err-by : goal.returns-in_err-by
returns-in_err-by g c = does_then _ (does_evaluated c.in_ok-number.ensures.does) (does_stopped _ (does_evaluated c.in_err-by.ensures.does) c.from_residual-in_err-by.ensures)

pub returns : goal.returns
returns g c =
    does_then _ (does_evaluated c.in_ok-number.ensures.does)
    (does_then _ (does_evaluated c.in_ok-by.ensures.does)
    (does_gives (units c.in_ok-number.number, units c.in_ok-by.by) (λ (numbers : Num × Num). (units numbers.0, units numbers.1)) (c.in_ok-number.number, c.in_ok-by.by) refl))
