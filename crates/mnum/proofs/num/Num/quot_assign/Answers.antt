-- SPDX-License-Identifier: Apache-2.0
use Rattle.mnum.proofs.NumWords.{◌*◌, ◌/◌, ◌^◌, ◌-◌, Some, refl, ap, arith, lit≤, ten_pos, whole_quotient_of, units, div-le_self}
use Rattle.mnum.proofs.Cuts.{returns_exact}
use Rattle.mnum.proofs.Outcomes.{of_same}
use Rattle.mnum.proofs.Quotients.{some_units}
use Rattle.mnum.proofs.Sums.{quotient_is}
use Rattle.mnum.proofs.num.Num.quot_assign.Goals as goal

pub returns-in-Some : goal.returns-in-Some
returns-in-Some c =
    let first = c.in-Some.first in
    let second = c.in-Some.second in
    let same = c.in-Some.ensures in
    of_same whole_quotient_of (units first) (units second) _ _ _ same.1 same.2
    (quotient_is first.negative second.negative first.digits second.digits (10 ^ (18 - first.places))
    (first.digits * 10 ^ (18 - first.places)) (second.digits * 10 ^ (18 - second.places)) (Some (first.digits / second.digits * 10 ^ (18 - 0)))
    (ten_pos (18 - first.places)) (some_units second.digits second.places (same.3 (omega arith))) refl (ap (λ x. second.digits * 10 ^ (18 - x)) same.0)
    (λ p q some floor fine. returns_exact 18 (first.digits / second.digits) 0 p q (lit≤ tt) (lit≤ tt) (omega (arith, div-le_self first.digits second.digits)) some fine))

pub returns : goal.returns
returns c = c.put_quotient.ensures.value (units c.args.other.now) (whole_quotient_of (units c.args.self.now) (units c.args.other.now)) c.quot_at_places.ensures
