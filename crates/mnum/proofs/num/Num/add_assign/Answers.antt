-- SPDX-License-Identifier: Apache-2.0
use Rattle.mnum.proofs.NumWords.{◌*◌, ◌^◌, ◌-◌, ◌∙◌, Some, refl, sym, ap, lit≤, sum_of, units}
use Rattle.mnum.proofs.Cuts.{returns_exact}
use Rattle.mnum.proofs.MachineNumbers.{sum_is_signed}
use Rattle.mnum.proofs.Sums.{sum_is}
use Rattle.mnum.proofs.num.Num.add_assign.Goals as goal

pub returns-then-digits-lt-DIGITS_END : goal.returns-then-digits-lt-DIGITS_END
returns-then-digits-lt-DIGITS_END c =
    let first = c.in-Some.first in
    let second = c.in-Some.second in
    let same = c.in-Some.ensures in
    ap (λ z. sum_of z (units c.args.other.now)) (sym same.1) ∙ ap (sum_of (units first)) (sym same.2)
    ∙ sum_is _ first.negative second.negative c.unsigned_abs-digits.result first.digits second.digits (10 ^ (18 - first.places))
    (first.digits * 10 ^ (18 - first.places)) (second.digits * 10 ^ (18 - second.places)) first.places (Some (c.unsigned_abs-digits.result * 10 ^ (18 - first.places)))
    first.places_at_most refl
    (sum_is_signed first.negative second.negative first.digits second.digits c.unsigned_abs-digits.result c.signed_digits.result c.signed_digits-in-Some.result _ refl
    c.signed_digits.ensures.below c.signed_digits-in-Some.ensures.below c.signed_digits.ensures.value c.signed_digits-in-Some.ensures.value c.unsigned_abs-digits.ensures.value)
    refl (ap (λ x. second.digits * 10 ^ (18 - x)) same.0)
    (λ p q some floor fine. returns_exact 18 c.unsigned_abs-digits.result first.places p q (lit≤ tt) first.places_at_most c.if-digits-lt-DIGITS_END.true some fine)
