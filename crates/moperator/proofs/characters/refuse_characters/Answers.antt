-- SPDX-License-Identifier: Apache-2.0
use Rattle.moperator.proofs.OperatorWords.{◌≡◌, List, [], ◌∷◌, ◌++◌, length, refl, ◌∙◌, ap, arith, character_of, is_over_ascii, residual_is, fault_of}
use Rattle.std.proofs.Common.{ℤ}
use Rattle.mspec.specs.Code as spec
use Rattle.moperator.proofs.GivenArguments.{next_whole, whole_refused, wholes_end}
use Rattle.moperator.proofs.Numbers.{whole_fits}
use Rattle.moperator.proofs.CharacterRefusals.{over_more, count_more, at_most_one, over_is_refused, long_is_refused, short_is_allowed, argument_is_refused}
use Rattle.moperator.proofs.characters.refuse_characters.Goals as goal

pub loop-argument-init : goal.loop-argument-init
loop-argument-init c = ([], (λ r k. k), refl, refl, omega arith)

pub returns-in_err-code-clause-refused : goal.returns-in_err-code-clause-refused
returns-in_err-code-clause-refused c =
    let ns = c.loop-argument.invariant.0 in
    let read = c.loop-argument.invariant.1 _ (whole_refused (λ (w : List ℤ). w) c.args.arguments.now c.loop-argument.argument-index c.argument-item.result ns _ c.loop-argument-test.true c.argument-item.is c.in_err-code.ensures.whole) in
    rw (residual_is _ _ c.from_residual.ensures) (argument_is_refused c.args.arguments.now _ read)

pub returns-in_err-code-clause-own : goal.returns-in_err-code-clause-own
returns-in_err-code-clause-own c = rw (residual_is _ _ c.from_residual.ensures) (spec.Zover, ap fault_of c.in_err-code.ensures.over)

pub loop-argument-preserved : goal.loop-argument-preserved
loop-argument-preserved c =
    let ns = c.loop-argument.invariant.0 in
    let n = c.in_ok-code.code in
    let fits = whole_fits n c.in_ok-code.ensures.below in
    let over : c.is_over_ascii-is_over.result ≡ is_over_ascii n = c.is_over_ascii-is_over.ensures ∙ ap is_over_ascii fits in
    let count : c.character_count-count.result ≡ length (character_of n) = c.character_count-count.ensures ∙ ap (λ n. length (character_of n)) fits in
    let few = at_most_one n in
    let within = c.loop-argument.invariant.4 in
    (ns ++ n ∷ [], (λ r k. c.loop-argument.invariant.1 r (next_whole (λ (w : List ℤ). w) c.args.arguments.now c.loop-argument.argument-index c.argument-item.result ns _ r c.loop-argument-test.true c.argument-item.is c.in_ok-code.ensures.whole k)), rw over (over_more ns n _ c.loop-argument.invariant.2), rw count (count_more ns n _ c.loop-argument.invariant.3), omega (arith, few, within, count))

pub returns-then-is_over-clause-refused : goal.returns-then-is_over-clause-refused
returns-then-is_over-clause-refused c =
    let ns = c.loop-argument.invariant.0 in
    let read = c.loop-argument.invariant.1 _ (wholes_end (λ (w : List ℤ). w) c.args.arguments.now c.loop-argument.argument-index ns c.loop-argument-test.false) in
    over_is_refused c.args.arguments.now ns read (c.loop-argument.invariant.2 ∙ c.if-is_over.true)

pub returns-then-is_over-clause-own : goal.returns-then-is_over-clause-own
returns-then-is_over-clause-own c = (spec.Zchar, refl)

pub returns-then-count-gt-MAX_TEXT-clause-refused :
    goal.returns-then-count-gt-MAX_TEXT-clause-refused
returns-then-count-gt-MAX_TEXT-clause-refused c =
    let ns = c.loop-argument.invariant.0 in
    let read = c.loop-argument.invariant.1 _ (wholes_end (λ (w : List ℤ). w) c.args.arguments.now c.loop-argument.argument-index ns c.loop-argument-test.false) in
    let count = c.loop-argument.invariant.3 in
    let long = c.if-count-gt-MAX_TEXT.true in
    long_is_refused c.args.arguments.now ns read (c.loop-argument.invariant.2 ∙ c.if-is_over.false) (omega (arith, count, long))

pub returns-then-count-gt-MAX_TEXT-clause-own :
    goal.returns-then-count-gt-MAX_TEXT-clause-own
returns-then-count-gt-MAX_TEXT-clause-own c = (spec.Zlong, refl)

pub returns-clause-allowed : goal.returns-clause-allowed
returns-clause-allowed c =
    let ns = c.loop-argument.invariant.0 in
    let read = c.loop-argument.invariant.1 _ (wholes_end (λ (w : List ℤ). w) c.args.arguments.now c.loop-argument.argument-index ns c.loop-argument-test.false) in
    let count = c.loop-argument.invariant.3 in
    let short = c.if-count-gt-MAX_TEXT.false in
    short_is_allowed c.args.arguments.now ns read (c.loop-argument.invariant.2 ∙ c.if-is_over.false) (omega (arith, count, short))
