-- SPDX-License-Identifier: Apache-2.0
use Rattle.meval.proofs.EvalLaws.{◌≡◌, sym, subst, ◌∙◌, walk_view, evaluates_then, evaluates_stopped, evaluates_wanting}
use Rattle.meval.proofs.EvalWords.{true, false, arith}
use Rattle.mspec.specs.Access.{Read}
use Rattle.mmeaning.specs.Merging.{next_after}
use Rattle.meval.specs.Places.{IsOpen}
use Rattle.meval.proofs.MergeRuns.{each_ok, is_past, is_there}
use Rattle.meval.proofs.eval.Eval.node_passed.Goals as goal

pub returns-in_err-is-clause-does : goal.returns-in_err-is-clause-does
returns-in_err-is-clause-does g c = evaluates_wanting _ _ _ c.from_residual.ensures

pub returns-then-not-is-clause-spent : goal.returns-then-not-is-clause-spent
returns-then-not-is-clause-spent g c = λ h. absurd (let clash : false ≡ true = h in cc)

pub returns-then-not-is-clause-does : goal.returns-then-not-is-clause-does
returns-then-not-is-clause-does g c =
    let is = rw c.requires.above at (sym c.in_ok-is.ensures ∙ c.if-not-is.true) in
    is_past (walk_view c.args.to.now) (walk_view c.args.from.now) c.args.at.now is

pub next_after-requires-clause-allowed : goal.next_after-requires-clause-allowed
next_after-requires-clause-allowed g c =
    subst (λ b. IsOpen b Read (walk_view c.args.from.now)) (sym c.in_ok-node_merged.ensures.does.keeps.same) c.requires.reads

pub returns-in_err-node_merged-clause-does : goal.returns-in_err-node_merged-clause-does
returns-in_err-node_merged-clause-does g c =
    let is = rw c.requires.above at (sym c.in_ok-is.ensures ∙ c.if-not-is.false) in
    let does = rw c.as_slice-subscripts.ensures.texts at c.in_err-node_merged.ensures.does in
    is_there (walk_view c.args.to.now) (walk_view c.args.from.now) c.args.at.now is
    (evaluates_stopped (λ i _. next_after (walk_view c.args.from.now) c.args.at.now) does c.from_residual-in_err-node_merged.ensures)

pub returns-clause-spent : goal.returns-clause-spent
returns-clause-spent g c =
    each_ok _ c.next_after.result (λ next is. omega (arith, c.in_ok-node_merged.ensures.spent, c.next_after.ensures.keeps.fewer))

pub returns-clause-does : goal.returns-clause-does
returns-clause-does g c =
    let is = rw c.requires.above at (sym c.in_ok-is.ensures ∙ c.if-not-is.false) in
    let does = rw c.as_slice-subscripts.ensures.texts at c.in_ok-node_merged.ensures.does in
    let next = rw c.as_slice-subscripts.ensures.texts at c.next_after.ensures in
    is_there (walk_view c.args.to.now) (walk_view c.args.from.now) c.args.at.now is
    (evaluates_then (λ i _. next_after (walk_view c.args.from.now) c.args.at.now) does next)
