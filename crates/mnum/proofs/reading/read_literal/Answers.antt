-- SPDX-License-Identifier: Apache-2.0
use Rattle.mnum.proofs.NumWords.{◌+◌, sym, ◌∙◌, ap, inl, refl, cond, lit≤, add-zero, digits_after, front_digits}
use Rattle.mnum.proofs.LiteralLaws.{literal_read}
use Rattle.mnum.proofs.reading.read_literal.Goals as goal

pub returns-then-down : goal.returns-then-down
returns-then-down c =
    literal_read c.args.kept c.args.text.now c.rest_of-rest.result.now c.tail_of.result.now c.read_digits-count.result.1 c.read_fraction-fraction.result.1 c.read_exponent-down.result.1 c.read_exponent-down.result.0
    c.read_fraction-fraction.result.0.digits c.read_fraction-fraction.result.0.dropped _ 0 (c.read_fraction-fraction.result.1 + c.read_exponent-down.result.1)
    c.rest_of-rest.ensures c.read_digits-count.ensures.count c.read_fraction-fraction.ensures.count c.tail_of.ensures c.read_exponent-down.ensures.sign c.read_exponent-down.ensures.value
    (c.read_fraction-fraction.ensures.value (digits_after 0 (front_digits c.args.text.now)) (c.read_digits-count.ensures.value 0 (record { low = lit≤ tt; high = lit≤ tt; whole = inl refl })))
    (ap (λ b. cond b 0 c.read_exponent-down.result.1) (sym c.if-down.true)) (ap (λ b. c.read_fraction-fraction.result.1 + cond b c.read_exponent-down.result.1 0) (sym c.if-down.true))
    c.scaled.ensures

pub returns-else-down : goal.returns-else-down
returns-else-down c =
    literal_read c.args.kept c.args.text.now c.rest_of-rest.result.now c.tail_of.result.now c.read_digits-count.result.1 c.read_fraction-fraction.result.1 c.read_exponent-down.result.1 c.read_exponent-down.result.0
    c.read_fraction-fraction.result.0.digits c.read_fraction-fraction.result.0.dropped _ c.read_exponent-down.result.1 (c.read_fraction-fraction.result.1)
    c.rest_of-rest.ensures c.read_digits-count.ensures.count c.read_fraction-fraction.ensures.count c.tail_of.ensures c.read_exponent-down.ensures.sign c.read_exponent-down.ensures.value
    (c.read_fraction-fraction.ensures.value (digits_after 0 (front_digits c.args.text.now)) (c.read_digits-count.ensures.value 0 (record { low = lit≤ tt; high = lit≤ tt; whole = inl refl })))
    (ap (λ b. cond b 0 c.read_exponent-down.result.1) (sym c.if-down.false)) (sym (add-zero c.read_fraction-fraction.result.1) ∙ ap (λ b. c.read_fraction-fraction.result.1 + cond b c.read_exponent-down.result.1 0) (sym c.if-down.false))
    c.scaled-else-down.ensures
