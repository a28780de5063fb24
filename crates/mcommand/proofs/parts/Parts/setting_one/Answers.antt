-- SPDX-License-Identifier: Apache-2.0
use Rattle.mcommand.proofs.CommandLaws.{residual_is, expr_tree, does_evaluated, plain_assigned, plain_failed}
use Rattle.meval.proofs.TreeViews.{variable_is, node_is}
use Rattle.mcommand.proofs.parts.Parts.setting_one.Goals as goal

pub returns-in_err-value-in-Variable-reference : goal.returns-in_err-value-in-Variable-reference
returns-in_err-value-in-Variable-reference g c =
    let v = c.in-Variable-reference in
    rw (residual_is _ _ c.from_residual.ensures, c.in-Variable.is, v.is, variable_is v.name) (plain_failed v.name (expr_tree c.args.e.now) _ (does_evaluated c.in_err-value-in-Variable-reference.ensures.does))

pub returns-in_ok-value-in-Variable-reference : goal.returns-in_ok-value-in-Variable-reference
returns-in_ok-value-in-Variable-reference g c =
    let v = c.in-Variable-reference in
    rw (c.in-Variable.is, v.is, variable_is v.name)
    (plain_assigned v.name (expr_tree c.args.e.now) c.in_ok-value-in-Variable-reference.value c.set_variable.result (does_evaluated c.in_ok-value-in-Variable-reference.ensures.does) (does_evaluated c.set_variable.ensures))

pub returns-in-Node : goal.returns-in-Node
returns-in-Node g c =
    let does = rw c.deref.ensures at c.setting_node.ensures in
    rw (c.in-Variable.is, c.in-Node.is, node_is c.in-Node.name c.in-Node.subscript) does
