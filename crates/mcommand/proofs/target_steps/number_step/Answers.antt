-- SPDX-License-Identifier: Apache-2.0
use Rattle.mcommand.proofs.CommandLaws.{refl, units}
use Rattle.moperator.specs.declared.code.Code.TheVariants.{Zmem}
use Rattle.std.proofs.lemmas.List.{map_push}
use Rattle.mmeaning.proofs.Yieldings.{yields_then, yields_stopped, yields_wanting}
use Rattle.mcommand.proofs.target_steps.number_step.Goals as goal

pub returns-in_err-value : goal.returns-in_err-value
returns-in_err-value c = yields_stopped _ c.in_err-value.ensures c.from_residual.ensures

pub returns-in_err-numbers : goal.returns-in_err-numbers
returns-in_err-numbers c = yields_then _ c.in_ok-value.ensures (yields_stopped _ c.in_err-numbers.ensures c.from_residual-in_err-numbers.ensures)

pub returns-in_err-number : goal.returns-in_err-number
returns-in_err-number c =
    yields_then _ c.in_ok-value.ensures
    (yields_then _ c.in_ok-numbers.ensures (yields_stopped _ c.in_err-number.ensures.number c.from_residual-in_err-number.ensures))

pub returns-in_err-push : goal.returns-in_err-push
returns-in_err-push c =
    yields_then _ c.in_ok-value.ensures
    (yields_then _ c.in_ok-numbers.ensures
    (yields_then _ c.in_ok-number.ensures.number (yields_wanting _ _ Zmem _ refl c.from_residual-in_err-push.ensures)))

pub returns : goal.returns
returns c =
    let put = rw (c.in_ok-push.ensures.items, map_push units c.in_ok-numbers.numbers.items _) at c.put.ensures in
    yields_then _ c.in_ok-value.ensures (yields_then _ c.in_ok-numbers.ensures (yields_then _ c.in_ok-number.ensures.number put))
