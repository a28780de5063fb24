-- SPDX-License-Identifier: Apache-2.0
use Rattle.meval.proofs.EvalLaws.{sym, subst, Text, ◌∙◌, ap, walk_view, standing_of, evaluates_then, evaluates_stopped, evaluates_yielded, evaluates_wanting}
use Rattle.meval.proofs.EvalWords.{List, arith}
use Rattle.mspec.specs.Access.{Read, Write}
use Rattle.mmeaning.specs.Variables.{put_at}
use Rattle.mmeaning.specs.Merging.{at_subscripts, counterpart}
use Rattle.meval.specs.Places.{IsOpen}
use Rattle.meval.proofs.MergeRuns.{after_charge, after_checked, each_ok, open_in}
use Rattle.meval.proofs.eval.Eval.node_merged.Goals as goal

pub returns-in_err-charge-clause-does : goal.returns-in_err-charge-clause-does
returns-in_err-charge-clause-does g c =
    let to = walk_view c.args.to.now in
    let from = walk_view c.args.from.now in
    let at : List Text = c.args.at.now in
    evaluates_stopped (λ i _. after_charge to from at) c.in_err-charge.ensures.does c.from_residual.ensures

pub returns-in_err-below-clause-does : goal.returns-in_err-below-clause-does
returns-in_err-below-clause-does g c =
    let to = walk_view c.args.to.now in
    let from = walk_view c.args.from.now in
    let at : List Text = c.args.at.now in
    evaluates_then (λ i _. after_charge to from at) c.in_ok-charge.ensures.does
    (evaluates_stopped (λ i _. after_checked to from at) (evaluates_yielded c.in_err-below.ensures.checked) c.from_residual-in_err-below.ensures)

pub returns-in_err-subscripts-clause-does : goal.returns-in_err-subscripts-clause-does
returns-in_err-subscripts-clause-does g c =
    let to = walk_view c.args.to.now in
    let from = walk_view c.args.from.now in
    let at : List Text = c.args.at.now in
    evaluates_then (λ i _. after_charge to from at) c.in_ok-charge.ensures.does
    (evaluates_then (λ i _. after_checked to from at) (evaluates_yielded c.in_ok-below.ensures.checked)
    (evaluates_wanting _ _ _ c.from_residual-in_err-subscripts.ensures))

pub returns-in_err-source-clause-does : goal.returns-in_err-source-clause-does
returns-in_err-source-clause-does g c =
    let to = walk_view c.args.to.now in
    let from = walk_view c.args.from.now in
    let at : List Text = c.args.at.now in
    evaluates_then (λ i _. after_charge to from at) c.in_ok-charge.ensures.does
    (evaluates_then (λ i _. after_checked to from at) (evaluates_yielded c.in_ok-below.ensures.checked)
    (evaluates_wanting _ _ _ (rw c.in_err-source.ensures.memory at c.from_residual-in_err-source.ensures)))

pub read-requires : goal.read-requires
read-requires g c =
    let from = walk_view c.args.from.now in
    let same = c.in_ok-source.ensures.place ∙ ap (at_subscripts from) c.in_ok-subscripts.ensures in
    let may = subst (λ b. IsOpen b Read from) (sym c.in_ok-charge.ensures.does.keeps.same) c.requires.reads in
    subst (IsOpen (standing_of c.charge.new.self) Read) (sym same) (open_in (standing_of c.charge.new.self) Read from c.args.at.now may)

pub returns-in_err-value-clause-does : goal.returns-in_err-value-clause-does
returns-in_err-value-clause-does g c =
    let to = walk_view c.args.to.now in
    let from = walk_view c.args.from.now in
    let at : List Text = c.args.at.now in
    let does = rw (c.in_ok-source.ensures.place, c.in_ok-subscripts.ensures) at c.in_err-value.ensures in
    evaluates_then (λ i _. after_charge to from at) c.in_ok-charge.ensures.does
    (evaluates_then (λ i _. after_checked to from at) (evaluates_yielded c.in_ok-below.ensures.checked)
    (evaluates_stopped (λ i x. put_at (at_subscripts to (counterpart to from at)) x) does c.from_residual-in_err-value.ensures))

pub returns-in_err-target-clause-does : goal.returns-in_err-target-clause-does
returns-in_err-target-clause-does g c =
    let to = walk_view c.args.to.now in
    let from = walk_view c.args.from.now in
    let at : List Text = c.args.at.now in
    let does = rw (c.in_ok-source.ensures.place, c.in_ok-subscripts.ensures) at c.in_ok-value.ensures in
    evaluates_then (λ i _. after_charge to from at) c.in_ok-charge.ensures.does
    (evaluates_then (λ i _. after_checked to from at) (evaluates_yielded c.in_ok-below.ensures.checked)
    (evaluates_then (λ i x. put_at (at_subscripts to (counterpart to from at)) x) does
    (evaluates_wanting _ _ _ (rw c.in_err-target.ensures.memory at c.from_residual-in_err-target.ensures))))

pub put-requires : goal.put-requires
put-requires g c =
    let to = walk_view c.args.to.now in
    let same = c.in_ok-target.ensures.place ∙ ap (at_subscripts to) c.in_ok-below.ensures.subscripts in
    let may = subst (λ b. IsOpen b Write to) (sym (c.in_ok-value.ensures.keeps.same ∙ c.in_ok-charge.ensures.does.keeps.same)) c.requires.writes in
    subst (IsOpen (standing_of c.read.new.self) Write) (sym same) (open_in (standing_of c.read.new.self) Write to _ may)

pub returns-clause-spent : goal.returns-clause-spent
returns-clause-spent g c =
    each_ok _ c.put.result
    (λ u. omega (arith, c.in_ok-charge.ensures.spent, c.in_ok-value.ensures.keeps.fewer, c.put.ensures.keeps.fewer))

pub returns-clause-does : goal.returns-clause-does
returns-clause-does g c =
    let to = walk_view c.args.to.now in
    let from = walk_view c.args.from.now in
    let at : List Text = c.args.at.now in
    let does = rw (c.in_ok-source.ensures.place, c.in_ok-subscripts.ensures) at c.in_ok-value.ensures in
    let sets = rw (c.in_ok-target.ensures.place, c.in_ok-below.ensures.subscripts) at c.put.ensures in
    evaluates_then (λ i _. after_charge to from at) c.in_ok-charge.ensures.does
    (evaluates_then (λ i _. after_checked to from at) (evaluates_yielded c.in_ok-below.ensures.checked)
    (evaluates_then (λ i x. put_at (at_subscripts to (counterpart to from at)) x) does sets))
