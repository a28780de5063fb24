-- SPDX-License-Identifier: Apache-2.0
use Rattle.mvalue.proofs.ValueWords.{◌≡◌, All, sym, ◌∙◌, subst, number_text, units}
use Rattle.mvalue.proofs.AsciiNumbers.{Ascii, text_ascii}
use Rattle.mvalue.proofs.value.Value.append_to.Goals as goal

pub append-requires : goal.append-requires
append-requires c =
    let items : c.as_slice.result.now ≡ number_text (units c.in-Number.number) = c.as_slice.ensures.value ∙ c.text.ensures in
    subst (All Ascii) (sym items) (text_ascii c.in-Number.number)
