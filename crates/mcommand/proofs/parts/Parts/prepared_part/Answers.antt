-- SPDX-License-Identifier: Apache-2.0
use Rattle.mcommand.proofs.CommandLaws.{refl, ap, sym, Option, pending_view, prepared_view, does_then, does_stopped, does_gives, does_evaluated}
use Rattle.mgrammar.specs.Functions.{FunctionTree}
use Rattle.mmeaning.specs.LineMeaning as meaning
use Rattle.mcommand.proofs.PreparedTargets.{row_is}
use Rattle.mcommand.proofs.parts.Parts.prepared_part.Goals as goal

pub returns-in_err-pending : goal.returns-in_err-pending
returns-in_err-pending g c = does_stopped _ (does_evaluated c.in_err-pending.ensures) c.from_residual.ensures

pub returns-in_err-values : goal.returns-in_err-values
returns-in_err-values g c =
    let does = rw c.deref.ensures.value at c.in_err-values.ensures in
    does_then _ (does_evaluated c.in_ok-pending.ensures) (does_stopped _ (does_evaluated does) c.from_residual-in_err-values.ensures)

pub returns : goal.returns
returns g c =
    let does = rw c.deref.ensures.value at c.in_ok-values.ensures in
    let row = ap (λ (o : Option FunctionTree). meaning.partial o (pending_view c.in_ok-pending.pending) c.in_ok-values.values) (sym (row_is _ _ c.function.ensures)) in
    does_then _ (does_evaluated c.in_ok-pending.ensures) (does_then _ (does_evaluated does) (does_gives _ prepared_view _ row))
