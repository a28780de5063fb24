-- SPDX-License-Identifier: Apache-2.0
use Rattle.mgrant.proofs.GrantWords.{◌≡◌, ◌<◌, ◌++◌, [], ◌∷◌, true, false, cond, All, get_or, set, sym, ap, subst, ◌∙◌, arith, rules, vec_len, replicate}
use Rattle.mgrant.proofs.GrantWords.{IsNonDecreasingBy, IsNonDecreasingBy-from_sort_by_key, IsPermutation-sym, All-permutation, Leads, IsStage, Edge}
use Rattle.mgrant.proofs.Marks.{stage_begun, leads_among}
use Rattle.mgrant.proofs.flow.reached.Goals as goal

pub spread-requires-clause-sorted : goal.spread-requires-clause-sorted
spread-requires-clause-sorted c =
    subst (IsNonDecreasingBy (λ (e : Edge). e.source)) (sym c.deref.ensures.value)
    (IsNonDecreasingBy-from_sort_by_key (λ (e : Edge). e.source) c.sort_unstable_by_key.new.self.items c.sort_unstable_by_key.ensures.sorted (λ a r f called. search rules))

pub spread-requires-clause-in_range : goal.spread-requires-clause-in_range
spread-requires-clause-in_range c =
    let size : vec_len c.mark.new.marks ≡ c.args.count = search rules in
    let P : Edge → Type 0 = λ e. e.target < vec_len c.mark.new.marks in
    let all : All P c.args.edges.items = λ k d within. let low : (get_or c.args.edges.items k d).target < c.args.count = c.requires.in_range k d within in omega arith in
    subst (All P) (sym c.deref.ensures.value) (All-permutation P c.args.edges.items c.sort_unstable_by_key.new.self.items c.sort_unstable_by_key.ensures.permutation all)

pub returns-clause-reached : goal.returns-clause-reached
returns-clause-reached c =
    let sorted = c.sort_unstable_by_key.new.self.items in
    let clear : c.in_ok-marks.marks.items ≡ replicate c.args.count false = c.in_ok-marks.ensures.items_if_clones_equal (λ y h. h) in
    let empty : c.new-order.result.items ≡ [] = c.new-order.ensures.items in
    let marks : c.mark.new.marks.items ≡ set (replicate c.args.count false) c.args.from true = c.in_ok-mark.ensures.marked ∙ ap (λ ms. set ms c.args.from true) clear in
    let order : c.mark.new.order.items ≡ cond (get_or (replicate c.args.count false) c.args.from false) [] ([] ++ c.args.from ∷ []) =
    c.in_ok-mark.ensures.listed ∙ (λ i. cond (get_or (clear i) c.args.from false) (empty i) (empty i ++ c.args.from ∷ [])) in
    let begun = subst (λ ms. IsStage sorted c.args.from ms c.mark.new.order.items) (sym marks)
    (subst (λ os. IsStage sorted c.args.from (set (replicate c.args.count false) c.args.from true) os) (sym order) (stage_begun sorted c.args.count c.args.from c.requires.from)) in
    let told = c.in_ok-spread.ensures.reached c.args.from (subst (λ es. IsStage es c.args.from c.mark.new.marks.items c.mark.new.order.items) (sym c.deref.ensures.value) begun) in
    λ y. (
      λ e. leads_among sorted c.args.edges.items (IsPermutation-sym c.args.edges.items sorted c.sort_unstable_by_key.ensures.permutation) (subst (λ es. Leads es c.args.from y) c.deref.ensures.value ((told y).0 e)),
      λ led. (told y).1 (subst (λ es. Leads es c.args.from y) (sym c.deref.ensures.value) (leads_among c.args.edges.items sorted c.sort_unstable_by_key.ensures.permutation led)),
    )
