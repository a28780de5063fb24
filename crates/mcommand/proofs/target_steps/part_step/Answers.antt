-- SPDX-License-Identifier: Apache-2.0
use Rattle.mcommand.proofs.CommandLaws.{refl, prepared_view}
use Rattle.moperator.specs.declared.code.Code.TheVariants.{Zmem}
use Rattle.std.proofs.lemmas.List.{map_push}
use Rattle.mmeaning.proofs.Yieldings.{yields_then, yields_stopped, yields_wanting}
use Rattle.mcommand.proofs.PreparedTargets.{row_is}
use Rattle.mcommand.proofs.target_steps.part_step.Goals as goal

pub returns-in_err-values : goal.returns-in_err-values
returns-in_err-values c = yields_stopped _ c.in_err-values.ensures c.from_residual.ensures

pub returns-in_err-pending : goal.returns-in_err-pending
returns-in_err-pending c = yields_then _ c.in_ok-values.ensures (yields_stopped _ c.in_err-pending.ensures c.from_residual-in_err-pending.ensures)

pub returns-in_err-all : goal.returns-in_err-all
returns-in_err-all c =
    yields_then _ c.in_ok-values.ensures
    (yields_then _ c.in_ok-pending.ensures (yields_stopped _ c.in_err-all.ensures c.from_residual-in_err-all.ensures))

pub returns-in_err-push : goal.returns-in_err-push
returns-in_err-push c =
    yields_then _ c.in_ok-values.ensures
    (yields_then _ c.in_ok-pending.ensures
    (yields_then _ c.in_ok-all.ensures (yields_wanting _ _ Zmem _ refl c.from_residual-in_err-push.ensures)))

pub returns : goal.returns
returns c =
    let put = rw (c.in_ok-push.ensures.items, map_push prepared_view c.in_ok-all.all.items _, c.of_vec-values.ensures) at c.put.ensures in
    yields_then _ c.in_ok-values.ensures
    (yields_then _ c.in_ok-pending.ensures (yields_then _ c.in_ok-all.ensures (rw (row_is _ _ c.function.ensures) put)))
