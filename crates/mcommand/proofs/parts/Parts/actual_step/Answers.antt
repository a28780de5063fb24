-- SPDX-License-Identifier: Apache-2.0
use Rattle.mcommand.proofs.CommandLaws.{does_then, does_stopped, does_yielded}
use Rattle.mcommand.proofs.parts.Parts.actual_step.Goals as goal

pub returns-in_err-test : goal.returns-in_err-test
returns-in_err-test g c = does_stopped _ (does_yielded c.in_err-test.ensures) c.from_residual.ensures

pub returns-in_err-binding : goal.returns-in_err-binding
returns-in_err-binding g c = does_then _ (does_yielded c.in_ok-test.ensures) (does_stopped _ c.in_err-binding.ensures c.from_residual-in_err-binding.ensures)

pub returns : goal.returns
returns g c = does_then _ (does_yielded c.in_ok-test.ensures) (does_then _ c.in_ok-binding.ensures (does_yielded c.put_handing.ensures))
