-- SPDX-License-Identifier: Apache-2.0
use Rattle.mcommand.proofs.CommandLaws.{residual_is, refl, pending_view, expr_tree, does_then, does_failed, does_gives, does_evaluated, does_is, named_is}
use Rattle.mcommand.proofs.CommandLaws.{one_assigned, one_value_failed, one_prepared_failed}
use Rattle.mtree.specs.Tree.{part_tree}
use Rattle.mgrammar.specs.Functions.{function_of}
use Rattle.mmeaning.specs.LineMeaning as meaning
use Rattle.mcommand.proofs.parts.Parts.setting_by_two.Goals as goal

pub returns-in_err-pending : goal.returns-in_err-pending
returns-in_err-pending g c =
    rw (residual_is _ _ c.from_residual.ensures) (one_prepared_failed (part_tree c.args.part.now) (expr_tree c.args.e.now) (λ (p : meaning.Prepared). p) _ (does_failed _ (does_evaluated c.in_err-pending.ensures)))

pub returns-in_err-values : goal.returns-in_err-values
returns-in_err-values g c =
    let values = rw c.deref.ensures.value at c.in_err-values.ensures in
    rw (residual_is _ _ c.from_residual-in_err-values.ensures)
    (one_prepared_failed (part_tree c.args.part.now) (expr_tree c.args.e.now) (λ (p : meaning.Prepared). p) _ (does_then _ (does_evaluated c.in_ok-pending.ensures) (does_failed _ (does_evaluated values))))

pub returns-in_err-value : goal.returns-in_err-value
returns-in_err-value g c =
    let values = rw c.deref.ensures.value at c.in_ok-values.ensures in
    rw (residual_is _ _ c.from_residual-in_err-value.ensures)
    (one_value_failed (part_tree c.args.part.now) (expr_tree c.args.e.now) (λ (p : meaning.Prepared). p) (meaning.partial (function_of c.args.part.now.word) (pending_view c.in_ok-pending.pending) c.in_ok-values.values) _
    (does_then _ (does_evaluated c.in_ok-pending.ensures) (does_then _ (does_evaluated values) (does_gives _ (λ (p : meaning.Prepared). p) _ refl))) (does_evaluated c.in_err-value.ensures.does))

pub returns : goal.returns
returns g c =
    let values = rw c.deref.ensures.value at c.in_ok-values.ensures in
    let part = meaning.partial (function_of c.args.part.now.word) (pending_view c.in_ok-pending.pending) c.in_ok-values.values in
    one_assigned (part_tree c.args.part.now) (expr_tree c.args.e.now) (λ (p : meaning.Prepared). p) part c.in_ok-value.value c.assign_part.result
    (does_then _ (does_evaluated c.in_ok-pending.ensures) (does_then _ (does_evaluated values) (does_gives _ (λ (p : meaning.Prepared). p) _ refl))) (does_evaluated c.in_ok-value.ensures.does)
    (does_is (λ i. named_is c.in_ok-value.value c.args.part.now.word _ (pending_view c.in_ok-pending.pending) c.in_ok-values.values c.function.ensures) c.assign_part.ensures)
