-- SPDX-License-Identifier: Apache-2.0
use Rattle.mnum.proofs.NumWords.{◌*◌, ◌^◌, ◌-◌, refl, units}
use Rattle.mnum.proofs.Outcomes.{outcome_is, never_over, mapped_none}
use Rattle.mnum.proofs.Quotients.{some_units}
use Rattle.mnum.proofs.Remainders.{remainder_is, remainder_fits}
use Rattle.mnum.proofs.num.Num.rem_at_places.Goals as goal

pub returns-clause-value : goal.returns-clause-value
returns-clause-value c =
    outcome_is (units c.args.other) _ _ c.divided.result
    (remainder_is c.args.self.negative c.args.other.negative c.at_places.result c.at_places-divisor.result (10 ^ (18 - c.common_places-places.result))
    (c.args.self.digits * 10 ^ (18 - c.args.self.places)) (c.args.other.digits * 10 ^ (18 - c.args.other.places)) c.common_places-places.result c.floored-left.result _
    c.common_places-places.ensures.at_most refl (some_units c.args.other.digits c.args.other.places c.requires) c.at_places.ensures.value c.at_places-divisor.ensures.value c.floored-left.ensures.value c.rounded.ensures)
    c.divided.ensures

pub returns-clause-never_over : goal.returns-clause-never_over
returns-clause-never_over c =
    never_over _ c.divided.result
    (λ none. remainder_fits c.floored-left.result c.at_places-divisor.result c.args.other.digits c.args.other.places c.common_places-places.result (10 ^ (18 - c.common_places-places.result)) _
    c.floored-left.ensures.below c.args.other.digits_below c.args.other.places_at_most c.common_places-places.ensures.at_most refl c.at_places-divisor.ensures.value c.rounded.ensures (mapped_none _ _ none))
    c.divided.ensures
