-- SPDX-License-Identifier: Apache-2.0
use Rattle.mnum.proofs.NumWords.{◌*◌, ◌^◌, ◌-◌, refl}
use Rattle.mnum.proofs.Outcomes.{same_number}
use Rattle.mnum.proofs.Sums.{sum_is}
use Rattle.mnum.proofs.num.Num.add_at_places.Goals as goal

pub returns : goal.returns
returns c =
    same_number _ _ c.numbered.result
    (sum_is c.signed_sum-negative.result.0 c.args.self.negative c.args.other.negative c.signed_sum-negative.result.1 c.at_places.result c.at_places-2.result (10 ^ (18 - c.common_places-places.result))
    (c.args.self.digits * 10 ^ (18 - c.args.self.places)) (c.args.other.digits * 10 ^ (18 - c.args.other.places)) c.common_places-places.result _
    c.common_places-places.ensures.at_most refl c.signed_sum-negative.ensures.value c.at_places.ensures.value c.at_places-2.ensures.value c.rounded.ensures)
    c.numbered.ensures
