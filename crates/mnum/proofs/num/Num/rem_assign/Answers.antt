-- SPDX-License-Identifier: Apache-2.0
use Rattle.mnum.proofs.NumWords.{◌*◌, ◌^◌, ◌-◌, Some, refl, ap, arith, lit≤, remainder_of, units}
use Rattle.mnum.proofs.Cuts.{returns_exact}
use Rattle.mnum.proofs.Outcomes.{of_same}
use Rattle.mnum.proofs.Quotients.{some_units}
use Rattle.mnum.proofs.Remainders.{remainder_is}
use Rattle.mnum.proofs.num.Num.rem_assign.Goals as goal

pub returns-in-Some-clause-value : goal.returns-in-Some-clause-value
returns-in-Some-clause-value c =
    let first = c.in-Some.first in
    let second = c.in-Some.second in
    let same = c.in-Some.ensures in
    of_same remainder_of (units first) (units second) _ _ _ same.1 same.2
    (remainder_is first.negative second.negative first.digits second.digits (10 ^ (18 - first.places))
    (first.digits * 10 ^ (18 - first.places)) (second.digits * 10 ^ (18 - second.places)) first.places c.floored-left.result (Some (c.floored-left.result * 10 ^ (18 - first.places)))
    first.places_at_most refl (some_units second.digits second.places (same.3 (omega arith))) refl (ap (λ x. second.digits * 10 ^ (18 - x)) same.0) c.floored-left.ensures.value
    (λ p q some floor fine. returns_exact 18 c.floored-left.result first.places p q (lit≤ tt) first.places_at_most (omega arith) some fine))

pub returns-clause-value : goal.returns-clause-value
returns-clause-value c = c.put_quotient.ensures.value (units c.args.other.now) (remainder_of (units c.args.self.now) (units c.args.other.now)) c.rem_at_places.ensures.value
