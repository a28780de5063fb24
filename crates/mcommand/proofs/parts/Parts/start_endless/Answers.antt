-- SPDX-License-Identifier: Apache-2.0
use Rattle.mcommand.proofs.CommandLaws.{Some, option_map, refl, give, endless, units, course_view, does_then, does_stopped, does_gives, does_evaluated}
use Rattle.mcommand.proofs.parts.Parts.start_endless.Goals as goal

pub returns-in_err-number : goal.returns-in_err-number
returns-in_err-number g c = does_stopped _ c.in_err-number.ensures c.from_residual.ensures

pub returns-in_err-set_variable : goal.returns-in_err-set_variable
returns-in_err-set_variable g c =
    let set = rw c.of_number.ensures at c.in_err-set_variable.ensures in
    does_then _ c.in_ok-number.ensures (does_stopped (λ i _. give (Some (endless (units c.in_ok-number.by)))) (does_evaluated set) c.from_residual-in_err-set_variable.ensures)

pub returns : goal.returns
returns g c =
    let set = rw c.of_number.ensures at c.in_ok-set_variable.ensures in
    let course = Some (endless (units c.in_ok-number.by)) in
    does_then _ c.in_ok-number.ensures (does_then (λ i _. give course) (does_evaluated set) (does_gives course (option_map course_view) _ refl))
