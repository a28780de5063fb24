-- SPDX-License-Identifier: Apache-2.0
use Rattle.mcommand.proofs.CommandLaws.{does_then, does_stopped, does_evaluated, does_yielded}
use Rattle.mcommand.proofs.parts.Parts.match_not_step.Goals as goal

pub returns-in_err-given : goal.returns-in_err-given
returns-in_err-given g c = does_stopped _ (does_yielded c.in_err-given.ensures) c.from_residual.ensures

pub returns-in_err-value : goal.returns-in_err-value
returns-in_err-value g c =
    does_then _ (does_yielded c.in_ok-given.ensures) (does_stopped _ (does_yielded c.in_err-value.ensures) c.from_residual-in_err-value.ensures)

pub returns-in_err-matches : goal.returns-in_err-matches
returns-in_err-matches g c =
    does_then _ (does_yielded c.in_ok-given.ensures)
    (does_then _ (does_yielded c.in_ok-value.ensures) (does_stopped _ (does_evaluated c.in_err-matches.ensures) c.from_residual-in_err-matches.ensures))

pub returns : goal.returns
returns g c =
    let put = rw c.of_truth.ensures at c.put.ensures in
    does_then _ (does_yielded c.in_ok-given.ensures)
    (does_then _ (does_yielded c.in_ok-value.ensures) (does_then _ (does_evaluated c.in_ok-matches.ensures) (does_yielded put)))
