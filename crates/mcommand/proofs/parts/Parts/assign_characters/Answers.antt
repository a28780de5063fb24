-- SPDX-License-Identifier: Apache-2.0
use Rattle.mcommand.proofs.CommandLaws.{does_then, does_stopped, does_yielded}
use Rattle.mcommand.proofs.parts.Parts.assign_characters.Goals as goal

pub returns-in_err-from : goal.returns-in_err-from
returns-in_err-from g c = does_stopped _ (does_yielded c.in_err-from.ensures.whole) c.from_residual.ensures

pub returns-in_err-to : goal.returns-in_err-to
returns-in_err-to g c = does_then _ (does_yielded c.in_ok-from.ensures.whole) (does_stopped _ (does_yielded c.in_err-to.ensures.whole) c.from_residual-in_err-to.ensures)

pub returns : goal.returns
returns g c = does_then _ (does_yielded c.in_ok-from.ensures.whole) (does_then _ (does_yielded c.in_ok-to.ensures.whole) c.assign_range.ensures)
