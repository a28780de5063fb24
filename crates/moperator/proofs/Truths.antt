-- SPDX-License-Identifier: Apache-2.0
-- What a test gives that looks at its second operand only if it has to.
use Rattle.moperator.proofs.OperatorWords.{◌≡◌, Bool, true, false, sym, ap, ◌∙◌, ◌&&◌, ◌||◌}

pub both_first : {p s : Bool} (t : Bool) → p ≡ s → p ≡ false → p ≡ (s && t)
both_first t is e = e ∙ ap (λ b. b && t) (sym e ∙ is)

pub both_second : {p r s t : Bool} → p ≡ s → p ≡ true → r ≡ t → r ≡ (s && t)
both_second {t = t} is e last = last ∙ ap (λ b. b && t) (sym e ∙ is)

pub either_first : {p s : Bool} (t : Bool) → p ≡ s → p ≡ true → p ≡ (s || t)
either_first t is e = e ∙ ap (λ b. b || t) (sym e ∙ is)

pub either_second : {p r s t : Bool} → p ≡ s → p ≡ false → r ≡ t → r ≡ (s || t)
either_second {t = t} is e last = last ∙ ap (λ b. b || t) (sym e ∙ is)
