-- SPDX-License-Identifier: Apache-2.0
use Rattle.meval.proofs.EvalLaws.{evaluates_then, evaluates_stopped, evaluated, pending_view, reference_tree, ◌>>=◌}
use Rattle.mmeaning.specs.Merging.{merge_found}
use Rattle.meval.proofs.eval.Eval.merging.Goals as goal

pub returns-in_err-pending : goal.returns-in_err-pending
returns-in_err-pending g c =
    evaluates_stopped (λ i v. evaluated i (reference_tree c.args.source.now) >>= merge_found v) c.in_err-pending.ensures c.from_residual.ensures

pub returns-in_err-other : goal.returns-in_err-other
returns-in_err-other g c =
    evaluates_then (λ i v. evaluated i (reference_tree c.args.source.now) >>= merge_found v) c.in_ok-pending.ensures
    (evaluates_stopped (λ i w. merge_found (pending_view c.in_ok-pending.pending) w) c.in_err-other.ensures c.from_residual-in_err-other.ensures)

pub returns : goal.returns
returns g c =
    evaluates_then (λ i v. evaluated i (reference_tree c.args.source.now) >>= merge_found v) c.in_ok-pending.ensures
    (evaluates_then (λ i w. merge_found (pending_view c.in_ok-pending.pending) w) c.in_ok-other.ensures c.merge_found.ensures)
