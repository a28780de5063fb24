-- SPDX-License-Identifier: Apache-2.0
use Rattle.mnum.proofs.NumWords.{refl}
use Rattle.mnum.proofs.ShortWholes.{IsShort, test_differs, canonical_front, one_zero, zero_alone}
use Rattle.mnum.proofs.writing.is_canonical.Goals as goal

pub returns-then-text-ne48 : goal.returns-then-text-ne48
returns-then-text-ne48 c =
    let short : IsShort c.args.text.now = record { some = c.if-is_short_digits.ensures.some refl; short = c.if-is_short_digits.ensures.short refl; digits = c.if-is_short_digits.ensures.digits refl } in
    (λ _. canonical_front c.args.text.now short c.if-text-ne48.true, λ _. test_differs _ _ c.if-text-ne48.true)

pub returns-else-text-ne48 : goal.returns-else-text-ne48
returns-else-text-ne48 c =
    let short : IsShort c.args.text.now = record { some = c.if-is_short_digits.ensures.some refl; short = c.if-is_short_digits.ensures.short refl; digits = c.if-is_short_digits.ensures.digits refl } in
    (one_zero c.args.text.now short c.if-text-ne48.false, zero_alone c.args.text.now short c.if-text-ne48.false)
