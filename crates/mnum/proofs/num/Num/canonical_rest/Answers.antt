-- SPDX-License-Identifier: Apache-2.0
use Rattle.mnum.proofs.NumWords.{◌≡◌, ap, arith, sym, ◌∙◌, ◌++◌, ◌*◌, ◌-◌, ◌^◌, ◌%◌, List, [], ◌∷◌, ℕ, unsigned_abs, fraction_text, units}
use Rattle.mnum.proofs.Places.{size_rest, pointed, not_pointed, rest_ascii}
use Rattle.mnum.proofs.num.Num.canonical_rest.Goals as goal

pub returns-then-fraction-gt0-clause-rest : goal.returns-then-fraction-gt0-clause-rest
returns-then-fraction-gt0-clause-rest c =
    let n = c.args.self in
    let fraction : ℕ = c.parts-fraction.result.1 in
    let rest_is : unsigned_abs (units n) % 10 ^ 18 ≡ fraction * 10 ^ (18 - n.places) = size_rest n.negative n.digits n.places n.places_at_most ∙ ap (λ x. x * 10 ^ (18 - n.places)) (sym c.parts-fraction.ensures.fraction) in
    c.push_fraction.ensures.items ∙ ap (λ (t : List ℕ). t ++ fraction_text n.places fraction) (c.push.ensures.items ∙ ap (λ (t : List ℕ). t ++ (46 ∷ [])) c.new-out.ensures)
    ∙ sym (pointed (unsigned_abs (units n) % 10 ^ 18) n.places fraction n.places_at_most c.parts-fraction.ensures.few_places c.if-fraction-gt0.true rest_is)

pub returns-then-fraction-gt0-clause-ascii : goal.returns-then-fraction-gt0-clause-ascii
returns-then-fraction-gt0-clause-ascii c =
    rest_ascii c.args.self.places c.parts-fraction.result.1 c.push_fraction.new.out.items c.parts-fraction.ensures.few_places
    (c.push_fraction.ensures.items ∙ ap (λ (t : List ℕ). t ++ fraction_text c.args.self.places c.parts-fraction.result.1) (c.push.ensures.items ∙ ap (λ (t : List ℕ). t ++ (46 ∷ [])) c.new-out.ensures))

pub returns-else-fraction-gt0-clause-rest : goal.returns-else-fraction-gt0-clause-rest
returns-else-fraction-gt0-clause-rest c =
    let n = c.args.self in
    let rest_is : unsigned_abs (units n) % 10 ^ 18 ≡ c.parts-fraction.result.1 * 10 ^ (18 - n.places) = size_rest n.negative n.digits n.places n.places_at_most ∙ ap (λ x. x * 10 ^ (18 - n.places)) (sym c.parts-fraction.ensures.fraction) in
    c.new-out.ensures ∙ sym (not_pointed (unsigned_abs (units n) % 10 ^ 18) n.places c.parts-fraction.result.1 c.if-fraction-gt0.false rest_is)
