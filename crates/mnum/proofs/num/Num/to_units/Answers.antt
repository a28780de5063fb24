-- SPDX-License-Identifier: Apache-2.0
use Rattle.mnum.proofs.NumWords.{◌∙◌, ap, sym, arith, ◌*◌, ◌^◌, ◌-◌, true, false, signed}
use Rattle.mnum.proofs.Sums.{places_below, negated_fits, negated_is, kept_is}
use Rattle.mnum.proofs.Ranges.{units_number}
use Rattle.mnum.proofs.num.Num.to_units.Goals as goal

pub overflow_sub-result : goal.overflow_sub-result
overflow_sub-result c = negated_fits (c.args.self.digits * c.power.result) (places_below c.args.self.digits (18 - c.args.self.places) c.power.result c.args.self.digits_below (omega arith) c.power.ensures.value)

pub returns-then-self-clause-value : goal.returns-then-self-clause-value
returns-then-self-clause-value c =
    negated_is (c.args.self.digits * c.power.result) (places_below c.args.self.digits (18 - c.args.self.places) c.power.result c.args.self.digits_below (omega arith) c.power.ensures.value)
    ∙ ap (λ x. signed true (c.args.self.digits * x)) c.power.ensures.value ∙ ap (λ b. signed b (c.args.self.digits * 10 ^ (18 - c.args.self.places))) (sym c.if-self.true)

pub returns-else-self-clause-value : goal.returns-else-self-clause-value
returns-else-self-clause-value c =
    kept_is (c.args.self.digits * c.power.result) (places_below c.args.self.digits (18 - c.args.self.places) c.power.result c.args.self.digits_below (omega arith) c.power.ensures.value)
    ∙ ap (λ x. signed false (c.args.self.digits * x)) c.power.ensures.value ∙ ap (λ b. signed b (c.args.self.digits * 10 ^ (18 - c.args.self.places))) (sym c.if-self.false)

pub returns-then-self-clause-number : goal.returns-then-self-clause-number
returns-then-self-clause-number c = units_number c.args.self

pub returns-else-self-clause-number : goal.returns-else-self-clause-number
returns-else-self-clause-number c = units_number c.args.self
