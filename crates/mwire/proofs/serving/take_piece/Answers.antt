-- SPDX-License-Identifier: Apache-2.0
use Rattle.mwire.proofs.WireWords.{◌++◌, ◌∷◌, [], refl, ◌∙◌, rules}
use Rattle.std.proofs.lemmas.Result.{err_from_is_err_and}
use Rattle.mwire.proofs.Progresses.{TakesOn-nil, TakesOn-under, TakesOn-then, TakesOn-open, TakesOn-stop, taken_more}
use Rattle.mwire.proofs.serving.take_piece.Goals as goal

pub loop-end-init : goal.loop-end-init
loop-end-init g c = record { taken = []; whole = refl; passes = TakesOn-nil _ _ _ _ _ _; settings = search rules; works = search rules; no_stall = search rules }

pub loop-end-preserved : goal.loop-end-preserved
loop-end-preserved g c =
    let i = c.loop-end.invariant in
    record {
      taken = i.taken ++ (c.in-Some.end.now ++ 10 ∷ []);
      whole = taken_more _ _ _ _ _ i.whole c.in-Some.ensures.1;
      passes = TakesOn-then _ _ _ _ _ _ _ _ _ _ _ _ _ _ _ i.passes (TakesOn-under i.settings c.in_ok-take_line.ensures.passes);
      settings = c.in_ok-take_line.ensures.settings ∙ i.settings;
      works = c.in_ok-take_line.ensures.works (λ e. cc) ∙ i.works;
      no_stall = c.in_ok-take_line.ensures.no_stall (λ e. cc) ∙ i.no_stall;
    }

pub returns-in_err-take_line-clause-passes : goal.returns-in_err-take_line-clause-passes
returns-in_err-take_line-clause-passes g c =
    let i = c.loop-end.invariant in
    let p = err_from_is_err_and c.from_residual.result c.from_residual.ensures.1 in
    let whole = taken_more _ _ _ _ _ i.whole c.in-Some.ensures.1 in
    let taken = TakesOn-then _ _ _ _ _ _ _ _ _ _ _ _ _ _ _ i.passes (TakesOn-under i.settings c.in_err-take_line.ensures.passes) in
    rw (p.1, whole) (TakesOn-stop _ _ _ _ _ _ _ _ _ _ _ _ taken)

pub returns-clause-passes : goal.returns-clause-passes
returns-clause-passes g c =
    let i = c.loop-end.invariant in
    rw i.whole (TakesOn-then _ _ _ _ _ _ _ _ _ _ _ _ _ _ _ i.passes (TakesOn-open _ _ _ _ _ _ _ tt c.in_default.ensures c.extend.ensures))
