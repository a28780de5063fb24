-- SPDX-License-Identifier: Apache-2.0
use Rattle.mcommand.proofs.CommandLaws.{residual_is, expr_tree, does_evaluated, node_assigned, node_value_failed, node_subscript_failed}
use Rattle.mcommand.proofs.parts.Parts.setting_node.Goals as goal

pub returns-in_err-subscript : goal.returns-in_err-subscript
returns-in_err-subscript g c =
    rw (residual_is _ _ c.from_residual.ensures) (node_subscript_failed c.args.name.now (expr_tree c.args.subscript.now) (expr_tree c.args.e.now) _ (does_evaluated c.in_err-subscript.ensures.does))

pub returns-in_err-value : goal.returns-in_err-value
returns-in_err-value g c =
    rw (residual_is _ _ c.from_residual-in_err-value.ensures)
    (node_value_failed c.args.name.now (expr_tree c.args.subscript.now) (expr_tree c.args.e.now) c.in_ok-subscript.subscript _ (does_evaluated c.in_ok-subscript.ensures.does) (does_evaluated c.in_err-value.ensures.does))

pub returns : goal.returns
returns g c =
    node_assigned c.args.name.now (expr_tree c.args.subscript.now) (expr_tree c.args.e.now) c.in_ok-subscript.subscript c.in_ok-value.value c.fast_put.result (does_evaluated c.in_ok-subscript.ensures.does) (does_evaluated c.in_ok-value.ensures.does) (does_evaluated c.fast_put.ensures)
