-- SPDX-License-Identifier: Apache-2.0
use Rattle.mcommand.proofs.CommandLaws.{Some, option_map, refl, give, last_turn, course_view, does_then, does_stopped, does_gives, does_evaluated}
use Rattle.mcommand.proofs.parts.Parts.start_parameter.Goals as goal

pub returns-in_err-value-in-Once : goal.returns-in_err-value-in-Once
returns-in_err-value-in-Once g c = rw c.in-Once.is (does_stopped _ (does_evaluated c.in_err-value-in-Once.ensures.does) c.from_residual.ensures)

pub returns-in_err-set_variable-in-Once : goal.returns-in_err-set_variable-in-Once
returns-in_err-set_variable-in-Once g c =
    rw c.in-Once.is
    (does_then _ (does_evaluated c.in_ok-value-in-Once.ensures.does) (does_stopped (λ i _. give (Some last_turn)) (does_evaluated c.in_err-set_variable-in-Once.ensures) c.from_residual-in_err-set_variable-in-Once.ensures))

pub returns-in_ok-set_variable-in-Once : goal.returns-in_ok-set_variable-in-Once
returns-in_ok-set_variable-in-Once g c =
    rw c.in-Once.is
    (does_then _ (does_evaluated c.in_ok-value-in-Once.ensures.does) (does_then (λ i _. give (Some last_turn)) (does_evaluated c.in_ok-set_variable-in-Once.ensures) (does_gives (Some last_turn) (option_map course_view) _ refl)))

pub returns-in-Onward : goal.returns-in-Onward
returns-in-Onward g c = rw c.in-Onward.is c.start_endless.ensures

pub returns-in-Until : goal.returns-in-Until
returns-in-Until g c = rw c.in-Until.is c.start_limited.ensures
