-- SPDX-License-Identifier: Apache-2.0
-- How a canonical text begins.
use Rattle.mnum.proofs.NumWords.{ℕ, ◌≡◌, ◌<◌, Bool, true, false, cond, Option, Some, None, List, [], ◌∷◌, ◌++◌, refl, ap, sym, ◌∙◌, subst, arith, ⊎_elim}
use Rattle.mnum.proofs.NumWords.{nat_eq, nat_tests, All-head, is_digit, Literal, IsMantissa, spell_fraction, spell_exponent, spell_literal, IsCanonical}
use Rattle.mnum.proofs.NumWords.{number_text, HasCanonicalForm, IsPlain, units, Num}
use Rattle.std.specs.Cmp.Lexicographic.{pointwise, bytes_decides}
use Rattle.mspec.proofs.CanonicalForm.{text_has_canonical_form}
use Rattle.mspec.proofs.TextLaws.{value_is_number}
use Rattle.mnum.specs.Start.{starts_number}
use Rattle.mnum.proofs.Ranges.{units_number}

digit_starts : (c : ℕ) (s : List ℕ) → is_digit c ≡ true → starts_number (c ∷ s) ≡ true
digit_starts c s h = grind (arith, nat_tests)

-- a literal begins with digits or a point
mantissa_starts : (whole : List ℕ) (fraction : Option (List ℕ)) (rest : List ℕ) → IsMantissa whole fraction → starts_number (whole ++ (spell_fraction fraction ++ rest)) ≡ true
mantissa_starts [] None rest h = absurd (h.some refl)
mantissa_starts [] (Some digits) rest h = refl
mantissa_starts (c ∷ whole) None rest h = digit_starts c (whole ++ rest) (All-head (λ x. is_digit x ≡ true) c whole h.each)
mantissa_starts (c ∷ whole) (Some digits) rest h = digit_starts c (whole ++ (46 ∷ (digits ++ rest))) (All-head (λ x. is_digit x ≡ true) c whole h.0)

signed_starts : (negative : Bool) (s : List ℕ) → starts_number s ≡ true → starts_number (cond negative (45 ∷ []) [] ++ s) ≡ true
signed_starts true s h = refl
signed_starts false s h = h

form_starts : (s : List ℕ) → HasCanonicalForm s → starts_number s ≡ true
form_starts s form =
    ⊎_elim
    (λ (zero_text : s ≡ 48 ∷ []). ap starts_number zero_text)
    (λ (plain : (negative : Bool) × (l : Literal) × IsPlain l × (s ≡ cond negative (45 ∷ []) [] ++ spell_literal l)).
    ap starts_number plain.3 ∙ (signed_starts plain.0 (spell_literal plain.1) (mantissa_starts plain.1.whole plain.1.fraction (spell_exponent plain.1.exponent) plain.2.literal.mantissa)))
    form

-- a canonical text begins with a digit, a minus sign or a point
pub canonical_starts : (kept : ℕ) (s : List ℕ) → 0 < kept → IsCanonical kept s → starts_number s ≡ true
canonical_starts kept s some canonical =
    let number = value_is_number kept s canonical.number some canonical.value in
    form_starts s (subst HasCanonicalForm canonical.text (text_has_canonical_form kept canonical.number number))

-- what begins in another way is not canonical
pub starts_otherwise : (kept : ℕ) (s : List ℕ) → 0 < kept → starts_number s ≡ false → IsCanonical kept s → ⊥
starts_otherwise kept s some other canonical = let starts = canonical_starts kept s some canonical in cc

-- the text of a number begins so
pub text_starts : (n : Num) → starts_number (number_text (units n)) ≡ true
text_starts n = form_starts (number_text (units n)) (text_has_canonical_form 18 (units n) (units_number n))

-- what begins in another way is the text of none
pub other_text : (n : Num) (s : List ℕ) → starts_number s ≡ false → false ≡ pointwise nat_eq (number_text (units n)) s
other_text n s other = here (pointwise nat_eq (number_text (units n)) s) refl
  where
    here : (b : Bool) → pointwise nat_eq (number_text (units n)) s ≡ b → false ≡ b
    here false e = refl
    here true e =
        let same : number_text (units n) ≡ s = (bytes_decides (number_text (units n)) s).0 e in
        sym other ∙ ap starts_number (sym same) ∙ text_starts n
