-- SPDX-License-Identifier: Apache-2.0
use Rattle.mcommand.proofs.CommandLaws.{pending_view, put_at, does_then, does_stopped, does_evaluated, does_is}
use Rattle.mtree.specs.Functions.{value_function_tree}
use Rattle.mcommand.proofs.PreparedTargets.{row_assigned}
use Rattle.mcommand.proofs.parts.Parts.assign.Goals as goal

pub returns-in_err-place-in-Whole : goal.returns-in_err-place-in-Whole
returns-in_err-place-in-Whole g c =
    rw c.in-Whole.is (does_stopped (λ i p. put_at p c.args.value) (does_evaluated c.in_err-place-in-Whole.ensures.does) c.from_residual.ensures)

pub returns-in_ok-place-in-Whole : goal.returns-in_ok-place-in-Whole
returns-in_ok-place-in-Whole g c =
    rw c.in-Whole.is (does_then (λ i p. put_at p c.args.value) (does_evaluated c.in_ok-place-in-Whole.ensures.does) (does_evaluated c.put.ensures))

pub returns-in-Part : goal.returns-in-Part
returns-in-Part g c =
    let does = rw c.as_slice.ensures at c.assign_part.ensures in
    rw c.in-Part.is (does_is (λ i. row_assigned c.args.value (value_function_tree c.in-Part.function) (pending_view c.in-Part.pending) c.in-Part.values) does)
