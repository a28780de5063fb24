-- SPDX-License-Identifier: Apache-2.0
use Rattle.mvalue.proofs.ValueWords.{ap, sym, ◌∙◌, significant_digits, numeric_value, kind_text}
use Rattle.mvalue.proofs.Numbers.{number_again}
use Rattle.mvalue.proofs.value.Value.number.Goals as goal

pub returns-in-Number : goal.returns-in-Number
returns-in-Number c = ap (numeric_value significant_digits) (sym c.self.view_is ∙ ap kind_text c.in-Number.is) ∙ number_again c.in-Number.number
