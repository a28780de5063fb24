-- SPDX-License-Identifier: Apache-2.0
use Rattle.moperator.proofs.OperatorWords.{refl, sym, ◌∙◌, ◌||◌, units, yields_then}
use Rattle.mspec.specs.Interpretations.{is_true, is_whole}
use Rattle.moperator.proofs.Exponents.{has_fraction, both_zero, may_be_raised}
use Rattle.moperator.proofs.operators.base_and_exponent.Goals as goal

pub returns-then-not-is_whole : goal.returns-then-not-is_whole
returns-then-not-is_whole c =
    let a = units c.in_ok-base.base in
    let b = units c.in_ok-base.exponent in
    yields_then _ c.in_ok-base.ensures (has_fraction _ (a, b) (is_whole b) (is_true a || is_true b) (sym c.is_whole.ensures ∙ c.if-not-is_whole.true))

pub returns-then-not-is_one_true : goal.returns-then-not-is_one_true
returns-then-not-is_one_true c =
    let a = units c.in_ok-base.base in
    let b = units c.in_ok-base.exponent in
    yields_then _ c.in_ok-base.ensures
    (both_zero _ (a, b) (is_whole b) (is_true a || is_true b) (sym c.is_whole.ensures ∙ c.if-not-is_whole.false) (sym c.is_one_true.ensures ∙ c.if-not-is_one_true.true))

pub returns : goal.returns
returns c =
    let a = units c.in_ok-base.base in
    let b = units c.in_ok-base.exponent in
    yields_then _ c.in_ok-base.ensures
    (may_be_raised _ (a, b) (is_whole b) (is_true a || is_true b) (c.in_ok-base.base, c.in_ok-base.exponent) (sym c.is_whole.ensures ∙ c.if-not-is_whole.false)
    (sym c.is_one_true.ensures ∙ c.if-not-is_one_true.false) refl)
