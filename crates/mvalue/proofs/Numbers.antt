-- SPDX-License-Identifier: Apache-2.0
-- Numbers and the texts of values.
use Rattle.mvalue.proofs.ValueWords.{◌≡◌, ◌^◌, true, false, Some, refl, sym, ap, ◌∙◌, Decides, nat_eq, ℤ, pos, ◌*ℤ◌, int_cmp, int_eq, is_eq, pointwise}
use Rattle.mvalue.proofs.ValueWords.{Decides-eqb, Decides-int_eq, same_from_decides, significant_digits, numeric_value, number_text, size_text, text_has_value}
use Rattle.mvalue.proofs.ValueWords.{units, Num, units_number, List, ℕ}
use Rattle.std.specs.Fmt.{digits}
use Rattle.std.proofs.lemmas.Slice.Eq.{slice_eq-Decides}
use Rattle.mspec.specs.Interpretations.{truth_text}

-- the text of a number stands for that number
pub number_again : (n : Num) → numeric_value significant_digits (number_text (units n)) ≡ Some (units n)
number_again n = text_has_value significant_digits (units n) (units_number n)

-- numbers of one text are one number
same_units : (m n : Num) → number_text (units m) ≡ number_text (units n) → units m ≡ units n
same_units m n same = some_is (units m) (units n) (sym (number_again m) ∙ ap (numeric_value significant_digits) same ∙ number_again n)
  where
    some_is : (a b : ℤ) → Some a ≡ Some b → a ≡ b
    some_is a b e = cc

pub one_text : number_text (pos 1 *ℤ pos (10 ^ 18)) ≡ truth_text true
unfolding size_text digits
one_text = refl

pub zero_text : number_text (pos 0 *ℤ pos (10 ^ 18)) ≡ truth_text false
unfolding size_text digits
zero_text = refl

-- numbers are equal when their texts are
pub same_number : (m n : Num) → is_eq (int_cmp (units m) (units n)) ≡ pointwise nat_eq (number_text (units m)) (number_text (units n))
same_number m n =
    same_from_decides (int_eq (units m) (units n)) (pointwise nat_eq (number_text (units m)) (number_text (units n))) (Decides-int_eq (units m) (units n)) (
      λ e. same_units m n ((texts_decide (number_text (units m)) (number_text (units n))).0 e),
      λ e. (texts_decide (number_text (units m)) (number_text (units n))).1 (ap number_text e),
    )
  where
    texts_decide : (s t : List ℕ) → Decides (pointwise nat_eq s t) (s ≡ t)
    texts_decide s t = slice_eq-Decides Decides-eqb s t (pointwise nat_eq s t) refl
