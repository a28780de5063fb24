-- SPDX-License-Identifier: Apache-2.0
use Rattle.meval.proofs.EvalLaws.{ap, sym, refl, ◌∙◌, are_subscripts, walk_view}
use Rattle.mmeaning.specs.Merging.{counterpart}
use Rattle.meval.proofs.MergeRuns.{counted, not_counted, never}
use Rattle.meval.proofs.merging.counterpart.Goals as goal

pub returns-in-Some-clause-checked : goal.returns-in-Some-clause-checked
returns-in-Some-clause-checked c =
    let whole =
    rw (c.subscripts_of-2.ensures, c.in_ok-rest.ensures, c.values_behind-behind.ensures, c.subscripts_of.ensures) at
    c.in_ok-values.ensures in
    let told = rw c.in-Some.is at c.new.ensures.when in
    counted (counterpart (walk_view c.args.to.now) (walk_view c.args.from.now) c.args.at.now) c.in-Some.subscripts
    (sym (ap are_subscripts whole) ∙ told.0 refl)

pub returns-in-Some-clause-subscripts : goal.returns-in-Some-clause-subscripts
returns-in-Some-clause-subscripts c =
    let whole =
    rw (c.subscripts_of-2.ensures, c.in_ok-rest.ensures, c.values_behind-behind.ensures, c.subscripts_of.ensures) at
    c.in_ok-values.ensures in
    (rw c.in-Some.is at c.new.ensures.subscripts) ∙ whole

pub returns-in-None-clause-checked : goal.returns-in-None-clause-checked
returns-in-None-clause-checked c =
    let whole =
    rw (c.subscripts_of-2.ensures, c.in_ok-rest.ensures, c.values_behind-behind.ensures, c.subscripts_of.ensures) at
    c.in_ok-values.ensures in
    let told = rw c.in-None.is at c.new.ensures.when in
    not_counted (counterpart (walk_view c.args.to.now) (walk_view c.args.from.now) c.args.at.now)
    (sym (ap are_subscripts whole) ∙ never (are_subscripts c.in_ok-values.values) told.1)
