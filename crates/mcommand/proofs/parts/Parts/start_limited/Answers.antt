-- SPDX-License-Identifier: Apache-2.0
use Rattle.mcommand.proofs.CommandLaws.{option_map, give, units, course_view, begun_within, does_then, does_stopped, does_gives, does_evaluated}
use Rattle.mcommand.proofs.parts.Parts.start_limited.Goals as goal

pub returns-in_err-number : goal.returns-in_err-number
returns-in_err-number g c = does_stopped _ c.in_err-number.ensures c.from_residual.ensures

pub returns-in_err-limit : goal.returns-in_err-limit
returns-in_err-limit g c = does_then _ c.in_ok-number.ensures (does_stopped _ (does_evaluated c.in_err-limit.ensures.does) c.from_residual-in_err-limit.ensures)

pub returns-in_err-set_variable : goal.returns-in_err-set_variable
returns-in_err-set_variable g c =
    let set = rw c.of_number.ensures at c.in_err-set_variable.ensures in
    let begun = begun_within (units c.in_ok-number.number) (units c.in_ok-number.by) (units c.in_ok-limit.limit) in
    does_then _ c.in_ok-number.ensures
    (does_then _ (does_evaluated c.in_ok-limit.ensures.does) (does_stopped (λ i _. give begun) (does_evaluated set) c.from_residual-in_err-set_variable.ensures))

pub returns : goal.returns
returns g c =
    let set = rw c.of_number.ensures at c.in_ok-set_variable.ensures in
    let begun = begun_within (units c.in_ok-number.number) (units c.in_ok-number.by) (units c.in_ok-limit.limit) in
    does_then _ c.in_ok-number.ensures
    (does_then _ (does_evaluated c.in_ok-limit.ensures.does) (does_then (λ i _. give begun) (does_evaluated set) (does_gives begun (option_map course_view) _ c.course_within.ensures)))
