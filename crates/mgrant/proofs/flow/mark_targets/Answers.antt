-- SPDX-License-Identifier: Apache-2.0
use Rattle.mgrant.proofs.GrantWords.{◌≡◌, ◌<◌, ◌++◌, [], ◌∷◌, true, false, cond, All, length, get_or, take, set, sym, ap, subst, ◌∙◌, arith, vec_len, take_more}
use Rattle.mgrant.proofs.GrantWords.{get_or-set_same, All-append, All-cons, All-nil, IsStage, IsMore, Edge, take_all}
use Rattle.mgrant.proofs.Marks.{stage_mark, more_mark, more_on}
use Rattle.mgrant.proofs.flow.mark_targets.Goals as goal

pub loop-step-preserved : goal.loop-step-preserved
loop-step-preserved c =
    let i = c.loop-step.step-index in
    let steps = c.args.steps.now in
    let marks = c.loop-step.marks.items in
    let order = c.loop-step.order.items in
    let d : Edge = record { source = 0; target = 0 } in
    let place = (get_or steps i d).target in
    let low : place < vec_len c.args.marks.now = c.requires i d c.loop-step-test.true in
    let len = c.loop-step.invariant.len in
    let within : place < length marks = omega arith in
    let marks' : c.mark.new.marks.items ≡ set marks place true = c.in_ok-mark.ensures.marked in
    let order' : c.mark.new.order.items ≡ cond (get_or marks place false) order (order ++ place ∷ []) = c.in_ok-mark.ensures.listed in
    let more : IsMore marks order c.mark.new.marks.items c.mark.new.order.items =
    subst (λ ms. IsMore marks order ms c.mark.new.order.items) (sym marks') (subst (λ os. IsMore marks order (set marks place true) os) (sym order') (more_mark marks order place within)) in
    let P : Edge → Type 0 = λ e. get_or c.mark.new.marks.items e.target false ≡ true in
    record {
      stage = λ edges start old led.
          subst (λ ms. IsStage edges start ms c.mark.new.order.items) (sym marks')
          (subst (λ os. IsStage edges start (set marks place true) os) (sym order') (stage_mark edges start marks order place (c.loop-step.invariant.stage edges start old led) within (led i d c.loop-step-test.true)));
      more = more_on _ _ _ _ _ _ c.loop-step.invariant.more more;
      marked = subst (All P) (sym (take_more steps i d c.loop-step-test.true))
          (All-append P (take i steps) (get_or steps i d ∷ []) (λ k e within. more.kept (get_or (take i steps) k e).target (c.loop-step.invariant.marked k e within))
          (All-cons P (get_or steps i d) [] (ap (λ ms. get_or ms place false) marks' ∙ get_or-set_same marks place true false within) (All-nil P)));
      len = c.mark.ensures.len ∙ c.loop-step.invariant.len;
    }

pub returns-clause-marked : goal.returns-clause-marked
returns-clause-marked c = subst (All (λ e. get_or c.loop-step.marks.items e.target false ≡ true)) (take_all c.loop-step.step-index c.args.steps.now (omega arith)) c.loop-step.invariant.marked
