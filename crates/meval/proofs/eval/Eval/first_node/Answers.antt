-- SPDX-License-Identifier: Apache-2.0
use Rattle.meval.proofs.EvalLaws.{Some, ap, sym, subst, ◌∙◌, Option, Text, give, walk_view, standing_of, evaluates_then, evaluates_stopped}
use Rattle.meval.proofs.EvalLaws.{evaluates_gives, evaluates_wanting}
use Rattle.meval.proofs.EvalWords.{List, cond}
use Rattle.mspec.specs.Access.{Read}
use Rattle.std.specs.Prelude.{is_some}
use Rattle.mmeaning.specs.Merging.{next_after, subscripts_at}
use Rattle.meval.specs.Places.{IsOpen}
use Rattle.meval.proofs.MergeRuns.{at_own, copy_node}
use Rattle.meval.proofs.eval.Eval.first_node.Goals as goal

pub as_node-requires : goal.as_node-requires
as_node-requires g c = rw c.subscripts_of-own.ensures (copy_node c.args.from.now c.requires.copy)

pub as_node-requires-in-Some : goal.as_node-requires-in-Some
as_node-requires-in-Some g c = rw c.subscripts_of-own.ensures (copy_node c.args.from.now c.requires.copy)

pub found-requires : goal.found-requires
found-requires g c =
    let same = c.in_ok-place.ensures.place ∙ at_own (walk_view c.args.from.now) _ (c.in_ok-subscripts.ensures ∙ c.subscripts_of-own.ensures) in
    subst (IsOpen (standing_of c.args.self.now) Read) (sym same) c.requires.allowed

pub next_after-requires-clause-subscripts : goal.next_after-requires-clause-subscripts
next_after-requires-clause-subscripts g c = rw c.subscripts_of-own.ensures (copy_node c.args.from.now c.requires.copy)

pub next_after-requires-clause-allowed : goal.next_after-requires-clause-allowed
next_after-requires-clause-allowed g c =
    subst (λ b. IsOpen b Read (walk_view c.args.from.now)) (sym c.in_ok-found.ensures.keeps.same) c.requires.allowed

pub returns-in_err-place : goal.returns-in_err-place
returns-in_err-place g c = evaluates_wanting _ _ _ (rw c.in_err-place.ensures.memory at c.from_residual-in_err-place.ensures)

pub returns-in_err-found : goal.returns-in_err-found
returns-in_err-found g c =
    let same = c.in_ok-place.ensures.place ∙ at_own (walk_view c.args.from.now) _ (c.in_ok-subscripts.ensures ∙ c.subscripts_of-own.ensures) in
    let does = rw same at c.in_err-found.ensures in
    evaluates_stopped (λ i found. cond (is_some found) (give (Some (subscripts_at (walk_view c.args.from.now))))
    (next_after (walk_view c.args.from.now) (subscripts_at (walk_view c.args.from.now)))) does c.from_residual-in_err-found.ensures

pub returns-in-None : goal.returns-in-None
returns-in-None g c =
    let same = c.in_ok-place.ensures.place ∙ at_own (walk_view c.args.from.now) _ (c.in_ok-subscripts.ensures ∙ c.subscripts_of-own.ensures) in
    let does = rw (same, c.in-None.is) at c.in_ok-found.ensures in
    let next = rw c.subscripts_of-own.ensures at c.next_after.ensures in
    evaluates_then (λ i found. cond (is_some found) (give (Some (subscripts_at (walk_view c.args.from.now))))
    (next_after (walk_view c.args.from.now) (subscripts_at (walk_view c.args.from.now)))) does next

pub returns-in_err-first-in-Some : goal.returns-in_err-first-in-Some
returns-in_err-first-in-Some g c =
    let same = c.in_ok-place.ensures.place ∙ at_own (walk_view c.args.from.now) _ (c.in_ok-subscripts.ensures ∙ c.subscripts_of-own.ensures) in
    let does = rw (same, c.in-Some.is) at c.in_ok-found.ensures in
    evaluates_then (λ i found. cond (is_some found) (give (Some (subscripts_at (walk_view c.args.from.now))))
    (next_after (walk_view c.args.from.now) (subscripts_at (walk_view c.args.from.now)))) does
    (evaluates_wanting _ _ _ c.from_residual-in_err-first-in-Some.ensures)

pub returns : goal.returns
returns g c =
    let same = c.in_ok-place.ensures.place ∙ at_own (walk_view c.args.from.now) _ (c.in_ok-subscripts.ensures ∙ c.subscripts_of-own.ensures) in
    let does = rw (same, c.in-Some.is) at c.in_ok-found.ensures in
    evaluates_then (λ i found. cond (is_some found) (give (Some (subscripts_at (walk_view c.args.from.now))))
    (next_after (walk_view c.args.from.now) (subscripts_at (walk_view c.args.from.now)))) does
    (evaluates_gives (Some (subscripts_at (walk_view c.args.from.now))) (λ (o : Option (List Text)). o) _
    (ap (λ (xs : List Text). Some xs) (c.in_ok-first-in-Some.ensures ∙ c.subscripts_of-own.ensures)))
