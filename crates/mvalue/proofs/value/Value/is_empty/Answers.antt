-- SPDX-License-Identifier: Apache-2.0
use Rattle.mvalue.proofs.ValueWords.{◌≡◌, ◌<◌, false, length, ap, sym, ◌∙◌, arith, nat_tests, kind_text, ◌==◌, ℕ}
use Rattle.mvalue.proofs.NumberLengths.{text_some}
use Rattle.mvalue.proofs.value.Value.is_empty.Goals as goal

not_none : (n : ℕ) → 0 < n → false ≡ n == 0
not_none n some = grind (arith, nat_tests)

pub returns-in-Number : goal.returns-in-Number
returns-in-Number c =
    not_none _ (text_some c.in-Number.field-0) ∙ ap (λ s. length s == 0) (sym (ap kind_text c.in-Number.is) ∙ c.self.view_is)
