-- SPDX-License-Identifier: Apache-2.0
use Rattle.mtext.proofs.TextWords.{◌≡◌, ◌+◌, ◌*◌, ◌++◌, List, ℕ, length, Ok, sym, ap, ◌∙◌, arith, repeat, length-append}
use Rattle.mtext.proofs.MadeTexts.{is_made, refused, wanting, length-repeat}
use Rattle.mtext.proofs.making.padded.Goals as goal

whole : (s d v : List ℕ) (n : ℕ) → length (s ++ (repeat n d ++ v)) ≡ length s + (n * length d + length v)
whole s d v n = omega (arith, length-append s (repeat n d ++ v), length-append (repeat n d) v, length-repeat n d)

pub returns-in_err-check_length : goal.returns-in_err-check_length
returns-in_err-check_length c =
    let size = whole c.args.text.now c.args.delimiter.now c.args.value.now c.args.count in
    refused _ c.in_err-check_length.field-0.0 c.from_residual.result (omega (arith, size, c.in_err-check_length.ensures.1)) c.in_err-check_length.ensures.0 c.from_residual.ensures

pub returns-in_err-extended : goal.returns-in_err-extended
returns-in_err-extended c =
    let size = whole c.args.text.now c.args.delimiter.now c.args.value.now c.args.count in
    wanting _ c.from_residual-in_err-extended.result (omega (arith, size, c.in_ok-check_length.ensures)) c.from_residual-in_err-extended.ensures

pub returns : goal.returns
returns c =
    let size = whole c.args.text.now c.args.delimiter.now c.args.value.now c.args.count in
    is_made _ (omega (arith, size, c.in_ok-check_length.ensures)) ∙ ap Ok (sym c.in_ok-extended.ensures)
