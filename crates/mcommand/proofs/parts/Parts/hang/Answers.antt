-- SPDX-License-Identifier: Apache-2.0
use Rattle.mcommand.proofs.CommandLaws.{refl, give, ℤ, does_then, does_stopped, does_gives, does_yielded}
use Rattle.mcommand.proofs.parts.Parts.hang.Goals as goal

pub returns-in_err-number_of : goal.returns-in_err-number_of
returns-in_err-number_of g c = does_stopped (λ i (n : ℤ). give tt) (does_yielded c.in_err-number_of.ensures.number) c.from_residual.ensures

pub returns : goal.returns
returns g c = does_then (λ i (n : ℤ). give tt) (does_yielded c.in_ok-number_of.ensures.number) (does_gives tt (λ (u : Unit {0}). u) tt refl)
