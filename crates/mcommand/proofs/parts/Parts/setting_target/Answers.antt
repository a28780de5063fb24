-- SPDX-License-Identifier: Apache-2.0
use Rattle.mcommand.proofs.CommandLaws.{residual_is, target_tree, expr_tree, prepared_view, does_evaluated, one_assigned, one_value_failed, one_prepared_failed}
use Rattle.mcommand.proofs.parts.Parts.setting_target.Goals as goal

pub returns-in_err-prepared : goal.returns-in_err-prepared
returns-in_err-prepared g c =
    rw (residual_is _ _ c.from_residual.ensures) (one_prepared_failed (target_tree c.args.target.now) (expr_tree c.args.e.now) prepared_view _ c.in_err-prepared.ensures)

pub returns-in_err-value : goal.returns-in_err-value
returns-in_err-value g c =
    rw (residual_is _ _ c.from_residual-in_err-value.ensures)
    (one_value_failed (target_tree c.args.target.now) (expr_tree c.args.e.now) prepared_view c.in_ok-prepared.prepared _ c.in_ok-prepared.ensures (does_evaluated c.in_err-value.ensures.does))

pub returns : goal.returns
returns g c =
    one_assigned (target_tree c.args.target.now) (expr_tree c.args.e.now) prepared_view c.in_ok-prepared.prepared c.in_ok-value.value c.assign.result c.in_ok-prepared.ensures (does_evaluated c.in_ok-value.ensures.does) c.assign.ensures
