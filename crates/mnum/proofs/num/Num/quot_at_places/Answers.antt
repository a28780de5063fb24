-- SPDX-License-Identifier: Apache-2.0
use Rattle.mnum.proofs.NumWords.{◌*◌, ◌^◌, ◌-◌, ten_pos, units}
use Rattle.mnum.proofs.Outcomes.{outcome_is}
use Rattle.mnum.proofs.Quotients.{some_units}
use Rattle.mnum.proofs.Sums.{quotient_is}
use Rattle.mnum.proofs.num.Num.quot_at_places.Goals as goal

pub returns : goal.returns
returns c =
    outcome_is (units c.args.other) _ _ c.divided.result
    (quotient_is c.args.self.negative c.args.other.negative c.at_places.result c.at_places-2.result (10 ^ (18 - c.common_places-places.result))
    (c.args.self.digits * 10 ^ (18 - c.args.self.places)) (c.args.other.digits * 10 ^ (18 - c.args.other.places)) _
    (ten_pos (18 - c.common_places-places.result)) (some_units c.args.other.digits c.args.other.places c.requires) c.at_places.ensures.value c.at_places-2.ensures.value c.rounded.ensures)
    c.divided.ensures
