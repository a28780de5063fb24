-- SPDX-License-Identifier: Apache-2.0
use Rattle.mnum.proofs.NumWords.{◌≡◌, ap, arith, sym, ◌∙◌, ◌++◌, ◌*◌, ◌-◌, ◌^◌, ◌%◌, ◌/◌, List, ℕ, decimal, unsigned_abs, zero-mul, mul-pos, ten_pos, units}
use Rattle.mnum.proofs.Places.{size_whole, size_rest, some_whole, no_fraction_left, fraction_alone, whole_ascii}
use Rattle.mspec.specs.NumberFormats.{digits_of}
use Rattle.mnum.proofs.num.Num.canonical_digits.Goals as goal
use Rattle.mnum.proofs.num.Num.canonical_digits.Goals.{then-whole-gt0-via-then-whole-gt0, then-whole-gt0-via-else-whole-gt0+then-fraction-eq0}

pub returns-then-whole-gt0-clause-digits : goal.returns-then-whole-gt0-clause-digits
returns-then-whole-gt0-clause-digits c =
    let n = c.args.self in
    let size : ℕ = unsigned_abs (units n) in
    let whole : ℕ = c.parts-whole.result.0 in
    let whole_is : size / 10 ^ 18 ≡ whole = size_whole n.negative n.digits n.places n.places_at_most ∙ sym c.parts-whole.ensures.whole in
    let rest_is : size % 10 ^ 18 ≡ c.parts-whole.result.1 * 10 ^ (18 - n.places) = size_rest n.negative n.digits n.places n.places_at_most ∙ ap (λ x. x * 10 ^ (18 - n.places)) (sym c.parts-whole.ensures.fraction) in
    let written : c.push_decimal.new.out.items ≡ decimal whole = c.push_decimal.ensures.items ∙ ap (λ (t : List ℕ). t ++ decimal whole) c.new-out.ensures in
    let digits : digits_of size ≡ decimal whole =
    elim c.then-whole-gt0.branch [
      | then-whole-gt0-via-then-whole-gt0 w ↦ some_whole size whole whole_is w.if-whole-gt0.true
      | then-whole-gt0-via-else-whole-gt0+then-fraction-eq0 w ↦
          no_fraction_left size whole whole_is (rest_is ∙ ap (λ x. x * 10 ^ (18 - n.places)) w.if-fraction-eq0.true ∙ zero-mul (10 ^ (18 - n.places)))
    ] in
    written ∙ sym digits

pub returns-then-whole-gt0-clause-ascii : goal.returns-then-whole-gt0-clause-ascii
returns-then-whole-gt0-clause-ascii c =
    whole_ascii c.parts-whole.result.0 c.push_decimal.new.out.items c.parts-whole.ensures.few_whole (c.push_decimal.ensures.items ∙ ap (λ (t : List ℕ). t ++ decimal c.parts-whole.result.0) c.new-out.ensures)

pub returns-else-fraction-eq0-clause-digits : goal.returns-else-fraction-eq0-clause-digits
returns-else-fraction-eq0-clause-digits c =
    let n = c.args.self in
    let size : ℕ = unsigned_abs (units n) in
    let whole_is : size / 10 ^ 18 ≡ c.parts-whole.result.0 = size_whole n.negative n.digits n.places n.places_at_most ∙ sym c.parts-whole.ensures.whole in
    let rest_is : size % 10 ^ 18 ≡ c.parts-whole.result.1 * 10 ^ (18 - n.places) = size_rest n.negative n.digits n.places n.places_at_most ∙ ap (λ x. x * 10 ^ (18 - n.places)) (sym c.parts-whole.ensures.fraction) in
    let none : c.parts-whole.result.0 ≡ 0 = omega (arith, c.if-whole-gt0.false) in
    c.new-out.ensures ∙ sym (fraction_alone size _ (whole_is ∙ none) rest_is (mul-pos (omega (arith, c.if-fraction-eq0.false)) (ten_pos (18 - n.places))))
