-- SPDX-License-Identifier: Apache-2.0
use Rattle.mcommand.proofs.CommandLaws.{does_then, does_stopped, does_evaluated}
use Rattle.mcommand.specs.Conditions.{truth_set}
use Rattle.mcommand.proofs.parts.Parts.testing.Goals as goal

pub returns-in_err-value : goal.returns-in_err-value
returns-in_err-value g c = does_stopped (λ i. truth_set) (does_evaluated c.in_err-value.ensures.does) c.from_residual.ensures

pub returns : goal.returns
returns g c = does_then (λ i. truth_set) (does_evaluated c.in_ok-value.ensures.does) c.truth_tested.ensures
