-- SPDX-License-Identifier: Apache-2.0
use Rattle.mvalue.proofs.ValueWords.{◌≡◌, ◌<◌, ◌^◌, sym, ◌∙◌, subst, arith, pos, ◌*ℤ◌, IfOk, number_text}
use Rattle.mspec.specs.Node.{Text}
use Rattle.mspec.proofs.WholeTexts.{text_of_whole}
use Rattle.mvalue.proofs.value.Value.of_count.Goals as goal

pub returns-clause-value : goal.returns-clause-value
returns-clause-value c =
    let some : 0 < c.args.count = omega arith in
    let digits : ◌≡◌ {A = Text} c.as_bytes.result.now (number_text (pos c.args.count *ℤ pos (10 ^ 18))) = c.as_bytes.ensures.value ∙ c.in_ok-digits.ensures.ok ∙ sym (text_of_whole c.args.count some) in
    subst (λ (t : Text). IfOk c.of_bytes.result (λ value. value ≡ t)) digits c.of_bytes.ensures
