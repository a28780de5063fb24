-- SPDX-License-Identifier: Apache-2.0
use Rattle.mnum.proofs.NumWords.{ap, arith, sym, ◌∙◌, ◌*◌, ◌-◌, ◌^◌, ◌++◌, List, [], ◌∷◌, ℕ, fraction_text}
use Rattle.mnum.proofs.Places.{all_placed, size_rest, rest_ascii}
use Rattle.mnum.proofs.num.Num.fixed_rest.Goals as goal

pub returns-clause-rest : goal.returns-clause-rest
returns-clause-rest c =
    let n = c.args.self in
    let part = c.parts-fraction.ensures.fraction in
    all_placed c.args.places _ n.places c.parts-fraction.result.1 c.saturating_sub.result c.push_fraction.new.out.items n.places_at_most c.parts-fraction.ensures.few_places (omega (arith, c.if-places-eq0.false))
    (size_rest n.negative n.digits n.places n.places_at_most ∙ ap (λ x. x * 10 ^ (18 - n.places)) (sym part))
    (c.push_fraction.ensures.items ∙ ap (λ (t : List ℕ). t ++ fraction_text n.places c.parts-fraction.result.1) (c.push.ensures.items ∙ ap (λ (t : List ℕ). t ++ (46 ∷ [])) c.new-out.ensures))
    (omega (arith, c.saturating_sub.ensures, c.len-written.ensures.value))

pub returns-clause-ascii : goal.returns-clause-ascii
returns-clause-ascii c =
    rest_ascii c.args.self.places c.parts-fraction.result.1 c.push_fraction.new.out.items c.parts-fraction.ensures.few_places
    (c.push_fraction.ensures.items ∙ ap (λ (t : List ℕ). t ++ fraction_text c.args.self.places c.parts-fraction.result.1) (c.push.ensures.items ∙ ap (λ (t : List ℕ). t ++ (46 ∷ [])) c.new-out.ensures))
