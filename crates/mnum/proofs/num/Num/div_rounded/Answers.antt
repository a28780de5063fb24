-- SPDX-License-Identifier: Apache-2.0
use Rattle.mnum.proofs.NumWords.{◌≡◌, ℕ, ◌*◌, ◌+◌, ◌/◌, ◌^◌, ◌-◌, ◌<◌, refl, sym, None, arith, IsFloor, IsFine, units}
use Rattle.mnum.proofs.Outcomes.{outcome_is}
use Rattle.mnum.proofs.Quotients.{quotient_floor, quotient_fine, quotient_over, quotient_rounded, some_units}
use Rattle.mnum.proofs.num.Num.div_rounded.Goals as goal

pub returns-then-zeros-self : goal.returns-then-zeros-self
returns-then-zeros-self c =
    let b : ℕ = c.args.other.digits in
    let A : ℕ = c.args.self.digits * 10 ^ (18 - c.args.self.places) in
    let B : ℕ = b * 10 ^ (18 - c.args.other.places) in
    let pos : 0 < B = some_units b c.args.other.places c.requires in
    quotient_rounded c.args.self.negative c.args.other.negative A B None pos
    (sym (quotient_over c.args.self.digits b c.args.self.places c.args.other.places c.raised-numerator.result.1 c.raised-numerator.result.0 c.args.other.digits_below c.args.self.places_at_most c.args.other.places_at_most (omega arith) c.raised-numerator.ensures.value c.raised-numerator.ensures.reached))

pub returns : goal.returns
returns c =
    let b : ℕ = c.args.other.digits in
    let A : ℕ = c.args.self.digits * 10 ^ (18 - c.args.self.places) in
    let B : ℕ = b * 10 ^ (18 - c.args.other.places) in
    let some : 0 < b = c.requires in
    let pos : 0 < B = some_units b c.args.other.places some in
    let t : ℕ = c.raised-numerator.result.1 + c.args.self.places - c.args.other.places in
    let scale : t + c.args.other.places ≡ c.raised-numerator.result.1 + c.args.self.places = omega arith in
    let n : ℕ = c.raised-numerator.result.0 / b in
    let floor : IsFloor n t A B = quotient_floor c.args.self.digits b c.args.self.places c.args.other.places t c.raised-numerator.result.1 c.raised-numerator.result.0 n c.args.self.places_at_most c.args.other.places_at_most some scale c.raised-numerator.ensures.value refl in
    let fine : IsFine 18 n t A B = quotient_fine c.args.self.digits b c.args.self.places c.args.other.places t c.raised-numerator.result.1 c.raised-numerator.result.0 n some c.args.other.digits_below c.args.self.places_at_most scale refl c.raised-numerator.ensures.reached in
    outcome_is (units c.args.other) _ _ c.divided.result (quotient_rounded c.args.self.negative c.args.other.negative A B _ pos (c.rounded-size.ensures A B pos floor fine)) c.divided.ensures
