-- SPDX-License-Identifier: Apache-2.0
use Rattle.mcommand.proofs.CommandLaws.{does_then, does_stopped, does_evaluated}
use Rattle.meval.specs.Acts.{kill_act}
use Rattle.mcommand.proofs.parts.Parts.killing.Goals as goal

pub returns-in_err-pending : goal.returns-in_err-pending
returns-in_err-pending g c = does_stopped (λ i v. kill_act v) (does_evaluated c.in_err-pending.ensures) c.from_residual.ensures

pub returns : goal.returns
returns g c = does_then (λ i v. kill_act v) (does_evaluated c.in_ok-pending.ensures) c.kill_found.ensures
