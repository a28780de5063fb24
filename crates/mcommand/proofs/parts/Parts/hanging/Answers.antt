-- SPDX-License-Identifier: Apache-2.0
use Rattle.mcommand.proofs.CommandLaws.{refl, give, does_then, does_stopped, does_gives, does_evaluated}
use Rattle.mcommand.proofs.parts.Parts.hanging.Goals as goal

pub returns-in_err-number : goal.returns-in_err-number
returns-in_err-number g c = does_stopped (λ i seconds. give tt) (does_evaluated c.in_err-number.ensures.does) c.from_residual.ensures

pub returns : goal.returns
returns g c = does_then (λ i seconds. give tt) (does_evaluated c.in_ok-number.ensures.does) (does_gives tt (λ (u : Unit {0}). u) tt refl)
