-- SPDX-License-Identifier: Apache-2.0
use Rattle.mcommand.proofs.CommandLaws.{kill_at, does_then, does_stopped, does_evaluated}
use Rattle.mcommand.proofs.parts.Parts.kill_found.Goals as goal

pub returns-in_err-place : goal.returns-in_err-place
returns-in_err-place g c = does_stopped (λ i p. kill_at p) (does_evaluated c.in_err-place.ensures.does) c.from_residual.ensures

pub returns : goal.returns
returns g c = does_then (λ i p. kill_at p) (does_evaluated c.in_ok-place.ensures.does) (does_evaluated c.kill.ensures)
