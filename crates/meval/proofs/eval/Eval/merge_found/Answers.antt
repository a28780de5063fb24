-- SPDX-License-Identifier: Apache-2.0
use Rattle.meval.proofs.EvalLaws.{sym, subst, evaluates_then, evaluates_stopped, pending_view, walk_view}
use Rattle.mspec.specs.Access.{Read}
use Rattle.meval.specs.Places.{IsOpen}
use Rattle.meval.proofs.MergeRuns.{after_target, after_source}
use Rattle.mmeaning.specs.Merging.{copied}
use Rattle.meval.proofs.eval.Eval.merge_found.Goals as goal

pub returns-in_err-from : goal.returns-in_err-from
returns-in_err-from g c =
    evaluates_stopped (λ i from. after_source (pending_view c.args.target) from) c.in_err-from.ensures.does c.from_residual.ensures

pub returns-in_err-refer_to : goal.returns-in_err-refer_to
returns-in_err-refer_to g c =
    evaluates_then (λ i from. after_source (pending_view c.args.target) from) c.in_ok-from.ensures.does
    (evaluates_stopped (λ i _. after_target (pending_view c.args.target) (walk_view c.in_ok-from.from)) c.in_err-refer_to.ensures
    c.from_residual-in_err-refer_to.ensures)

pub returns-in_err-to : goal.returns-in_err-to
returns-in_err-to g c =
    evaluates_then (λ i from. after_source (pending_view c.args.target) from) c.in_ok-from.ensures.does
    (evaluates_then (λ i _. after_target (pending_view c.args.target) (walk_view c.in_ok-from.from)) c.in_ok-refer_to.ensures
    (evaluates_stopped (λ i to. copied to (walk_view c.in_ok-from.from)) c.in_err-to.ensures.does c.from_residual-in_err-to.ensures))

pub copied-requires-clause-target : goal.copied-requires-clause-target
copied-requires-clause-target g c = c.in_ok-to.ensures.copy

pub copied-requires-clause-source : goal.copied-requires-clause-source
copied-requires-clause-source g c = c.in_ok-from.ensures.copy

pub copied-requires-clause-reads : goal.copied-requires-clause-reads
copied-requires-clause-reads g c =
    subst (λ b. IsOpen b Read (walk_view c.in_ok-from.from)) (sym c.in_ok-refer_to.ensures.keeps.same) c.in_ok-from.ensures.allowed

pub copied-requires-clause-writes : goal.copied-requires-clause-writes
copied-requires-clause-writes g c = c.in_ok-to.ensures.allowed

pub returns : goal.returns
returns g c =
    evaluates_then (λ i from. after_source (pending_view c.args.target) from) c.in_ok-from.ensures.does
    (evaluates_then (λ i _. after_target (pending_view c.args.target) (walk_view c.in_ok-from.from)) c.in_ok-refer_to.ensures
    (evaluates_then (λ i to. copied to (walk_view c.in_ok-from.from)) c.in_ok-to.ensures.does c.copied.ensures))
