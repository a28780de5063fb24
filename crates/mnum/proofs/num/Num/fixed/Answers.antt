-- SPDX-License-Identifier: Apache-2.0
use Rattle.mnum.proofs.NumWords.{ap, arith, cond, ◌∙◌, ◌++◌, List, [], ◌∷◌, ℕ}
use Rattle.mnum.proofs.Places.{text_without, text_with, front_ascii, all_ascii}
use Rattle.mnum.proofs.num.Num.fixed.Goals as goal

pub returns-then-places-eq0-clause-text : goal.returns-then-places-eq0-clause-text
returns-then-places-eq0-clause-text c =
    let n = c.args.self in
    text_without c.args.places n.negative c.is_below_zero.result n.digits n.places c.parts-whole.result.0 c.push_sign.new.out.items c.push_decimal.new.out.items n.places_at_most c.is_below_zero.ensures c.parts-whole.ensures.whole c.if-places-eq0.true
    (c.push_sign.ensures.items ∙ ap (λ (s : List ℕ). s ++ cond c.is_below_zero.result (45 ∷ []) []) c.new-out.ensures) c.push_decimal.ensures.items

pub returns-then-places-eq0-clause-ascii : goal.returns-then-places-eq0-clause-ascii
returns-then-places-eq0-clause-ascii c =
    front_ascii c.is_below_zero.result c.parts-whole.result.0 c.push_sign.new.out.items c.push_decimal.new.out.items c.parts-whole.ensures.few_whole
    (c.push_sign.ensures.items ∙ ap (λ (s : List ℕ). s ++ cond c.is_below_zero.result (45 ∷ []) []) c.new-out.ensures) c.push_decimal.ensures.items

pub returns-clause-text : goal.returns-clause-text
returns-clause-text c =
    let n = c.args.self in
    text_with c.args.places n.negative c.is_below_zero.result n.digits n.places c.parts-whole.result.0 c.parts-whole.result.1 c.saturating_sub.result c.push_sign.new.out.items c.push_decimal.new.out.items c.push.new.self.items c.push_fraction.new.out.items
    n.places_at_most c.is_below_zero.ensures c.parts-whole.ensures.whole c.parts-whole.ensures.fraction (omega (arith, c.if-places-eq0.false))
    (c.push_sign.ensures.items ∙ ap (λ (s : List ℕ). s ++ cond c.is_below_zero.result (45 ∷ []) []) c.new-out.ensures) c.push_decimal.ensures.items c.push.ensures.items c.push_fraction.ensures.items
    (omega (arith, c.saturating_sub.ensures, c.len-before.ensures.value, c.len.ensures.value))

pub returns-clause-ascii : goal.returns-clause-ascii
returns-clause-ascii c =
    all_ascii c.args.self.places c.parts-whole.result.1 c.push_decimal.new.out.items c.push.new.self.items c.push_fraction.new.out.items c.parts-whole.ensures.few_places
    (front_ascii c.is_below_zero.result c.parts-whole.result.0 c.push_sign.new.out.items c.push_decimal.new.out.items c.parts-whole.ensures.few_whole
    (c.push_sign.ensures.items ∙ ap (λ (s : List ℕ). s ++ cond c.is_below_zero.result (45 ∷ []) []) c.new-out.ensures) c.push_decimal.ensures.items)
    c.push.ensures.items c.push_fraction.ensures.items
