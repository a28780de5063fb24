-- SPDX-License-Identifier: Apache-2.0
use Rattle.mcommand.proofs.CommandLaws.{map, Vec, Global, residual_is, target_tree, expr_tree, Prepared, prepared_view, does_evaluated, all_given}
use Rattle.mcommand.proofs.CommandLaws.{all_value_failed, all_prepared_failed}
use Rattle.mcommand.proofs.parts.Parts.setting.Goals as goal

pub returns-in-One : goal.returns-in-One
returns-in-One g c = rw c.in-One.is c.setting_one.ensures

pub returns-in_err-all-in-Several : goal.returns-in_err-all-in-Several
returns-in_err-all-in-Several g c =
    let parts = rw c.deref.ensures.value at c.in_err-all-in-Several.ensures in
    rw (residual_is _ _ c.from_residual.ensures, c.in-Several.is)
    (all_prepared_failed (map target_tree c.in-Several.targets.items) (expr_tree c.args.e.now) (λ (ps : Vec Prepared Global). map prepared_view ps.items) _ parts)

pub returns-in_err-value-in-Several : goal.returns-in_err-value-in-Several
returns-in_err-value-in-Several g c =
    let parts = rw c.deref.ensures.value at c.in_ok-all-in-Several.ensures in
    rw (residual_is _ _ c.from_residual-in_err-value-in-Several.ensures, c.in-Several.is)
    (all_value_failed (map target_tree c.in-Several.targets.items) (expr_tree c.args.e.now) (λ (ps : Vec Prepared Global). map prepared_view ps.items) _ _ parts (does_evaluated c.in_err-value-in-Several.ensures.does))

pub returns-in_ok-value-in-Several : goal.returns-in_ok-value-in-Several
returns-in_ok-value-in-Several g c =
    let parts = rw c.deref.ensures.value at c.in_ok-all-in-Several.ensures in
    rw c.in-Several.is
    (all_given (map target_tree c.in-Several.targets.items) (expr_tree c.args.e.now) (λ (ps : Vec Prepared Global). map prepared_view ps.items) _ _ _ parts (does_evaluated c.in_ok-value-in-Several.ensures.does) c.assign_all.ensures)
