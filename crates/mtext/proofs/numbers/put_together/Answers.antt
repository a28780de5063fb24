-- SPDX-License-Identifier: Apache-2.0
use Rattle.mtext.proofs.TextWords.{Ok, ap, arith, sym, ◌∙◌}
use Rattle.mspec.specs.NumberFormats.{before_digits, behind_digits, whole_digits}
use Rattle.mnum.specs.Num.{units}
use Rattle.mtext.proofs.FormatMarks.{whole_length}
use Rattle.mtext.proofs.MadeTexts.{is_made, refused, wanting}
use Rattle.mtext.proofs.numbers.put_together.Goals as goal

pub returns-in_err-check_length : goal.returns-in_err-check_length
returns-in_err-check_length c =
    let format = c.args.format.now in
    let u = units c.args.number in
    let size = whole_length (before_digits format u) (behind_digits format u) c.args.rest.now (whole_digits format c.args.digits.now) c.args.zeros c.before_digits.ensures.text c.behind_digits.ensures.text c.digits_length.ensures.length in
    refused _ c.in_err-check_length.field-0.0 c.from_residual.result (omega (arith, size, c.in_err-check_length.ensures.1)) c.in_err-check_length.ensures.0 c.from_residual.ensures

pub returns-in_err-written : goal.returns-in_err-written
returns-in_err-written c =
    let format = c.args.format.now in
    let u = units c.args.number in
    let size = whole_length (before_digits format u) (behind_digits format u) c.args.rest.now (whole_digits format c.args.digits.now) c.args.zeros c.before_digits.ensures.text c.behind_digits.ensures.text c.digits_length.ensures.length in
    wanting _ c.from_residual-in_err-written.result (omega (arith, size, c.in_ok-check_length.ensures)) c.from_residual-in_err-written.ensures

pub returns : goal.returns
returns c =
    let format = c.args.format.now in
    let u = units c.args.number in
    let size = whole_length (before_digits format u) (behind_digits format u) c.args.rest.now (whole_digits format c.args.digits.now) c.args.zeros c.before_digits.ensures.text c.behind_digits.ensures.text c.digits_length.ensures.length in
    is_made _ (omega (arith, size, c.in_ok-check_length.ensures)) ∙ ap Ok (sym c.in_ok-written.ensures)
