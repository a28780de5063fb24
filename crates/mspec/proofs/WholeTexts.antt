-- SPDX-License-Identifier: Apache-2.0
-- Texts of at most eighteen digits and nothing else.
use Rattle.mspec.proofs.SpecWords.{ℕ, zero, suc, ◌≡◌, ◌≢◌, ◌+◌, ◌*◌, ◌/◌, ◌%◌, ◌^◌, ◌<◌, ◌≤◌, ◌⊎◌, false, Some, List, [], ◌∷◌, ◌++◌, length, All, refl, sym}
use Rattle.mspec.proofs.SpecWords.{◌∙◌, ap, subst, arith, inl, inr, option_map, pos, decimal, pow-le-pow_right, append-nil, All-nil, All-cons, All-head, signed}
use Rattle.mspec.proofs.SpecWords.{digits_after, numeric_value, whole_text, point_text, number_text, size_text, IsCanonical, NoZeroInFront}
use Rattle.mspec.proofs.Powers.{ten_pos}
use Rattle.mspec.proofs.NearestLaws.{exact_number}
use Rattle.mspec.proofs.TextLaws.{Digit, whole_some, whole_all, whole_value, size_some, size_of_whole, IsUnsigned, digits_unsigned, unsigned_value}
use Rattle.mspec.proofs.CanonicalForm.{whole_front, digits_below, digits_least, same_whole}

-- what is read of a text of at most eighteen digits
pub value_of_digits : (s : List ℕ) (n : ℕ) → All Digit s → n ≡ digits_after 0 s → n < 10 ^ 18 → numeric_value 18 s ≡ Some (pos (n * 10 ^ 18))
value_of_digits s n all is below =
    let unsigned : IsUnsigned s = subst IsUnsigned (append-nil s) (digits_unsigned s [] all (record { positive = refl; none = refl })) in
    let same : digits_after 0 (s ++ []) ≡ n = ap (digits_after 0) (append-nil s) ∙ sym is in
    unsigned_value 18 s unsigned
    ∙ ap (option_map (signed false))
    (size_of_whole 18 s all
    ∙ exact_number 18 (digits_after 0 (s ++ []) * 10 ^ 0) (10 ^ (0 + 0)) (n * 10 ^ 18) (ten_pos (0 + 0)) (omega arith)
    (record { in_range = omega arith; few_digits = (n, 18, below, refl) }))

-- the text of a whole number from 1 on is its digits
pub text_of_whole : (n : ℕ) → 0 < n → number_text (pos (n * 10 ^ 18)) ≡ decimal n
text_of_whole n some =
    let parts : (n * 10 ^ 18 / 10 ^ 18 ≡ n) × (n * 10 ^ 18 % 10 ^ 18 ≡ 0) = (omega arith, omega arith) in
    size_some (n * 10 ^ 18) (omega arith)
    ∙ ap (λ x. whole_text x ++ point_text (n * 10 ^ 18 % 10 ^ 18)) parts.0
    ∙ ap (λ x. whole_text n ++ point_text x) parts.1
    ∙ append-nil (whole_text n)
    ∙ whole_some n some

-- at most eighteen digits write a number below 10 ^ 18
pub short_below : (s : List ℕ) → All Digit s → length s ≤ 18 → digits_after 0 s < 10 ^ 18
short_below s all short = omega (arith, digits_below s all, pow-le-pow_right {n = 10} (omega arith) {i = length s} {j = 18} short)

pub zero_is_canonical : IsCanonical 18 (48 ∷ [])
unfolding size_text
zero_is_canonical = record { number = pos 0; value = value_of_digits (48 ∷ []) 0 (All-cons Digit 48 [] refl (All-nil Digit)) refl (omega arith); text = refl }

-- digits with no 0 in front are canonical
pub whole_is_canonical : (c : ℕ) (s : List ℕ) → All Digit (c ∷ s) → c ≢ 48 → length (c ∷ s) ≤ 18 → IsCanonical 18 (c ∷ s)
whole_is_canonical c s all front short =
    let n : ℕ = digits_after 0 (c ∷ s) in
    let below : n < 10 ^ 18 = short_below (c ∷ s) all short in
    let some : 0 < n = omega (arith, digits_least c s (All-head Digit c s all) front, ten_pos (length s)) in
    record {
      number = pos (n * 10 ^ 18);
      value = value_of_digits (c ∷ s) n all refl below;
      text = text_of_whole n some ∙ sym (whole_some n some)
          ∙ same_whole (whole_text n) (c ∷ s) (whole_all n (omega arith)) all (whole_front n (omega arith)) front (whole_value n (omega arith));
    }

-- canonical digits are the text of their number
number_text_is : (n : ℕ) (s : List ℕ) → All Digit s → n ≡ digits_after 0 s → n < 10 ^ 18 → IsCanonical 18 s → s ≡ number_text (pos (n * 10 ^ 18))
number_text_is n s all is below canonical =
    let read : numeric_value 18 s ≡ Some (pos (n * 10 ^ 18)) = value_of_digits s n all is below in
    let same : canonical.number ≡ pos (n * 10 ^ 18) = cc (canonical.value, read) in
    sym canonical.text ∙ ap number_text same

zero_text : (s : List ℕ) → All Digit s → 0 ≡ digits_after 0 s → IsCanonical 18 s → s ≡ 48 ∷ []
unfolding size_text
zero_text s all is canonical = number_text_is 0 s all is (omega arith) canonical

whole_text_is : (n : ℕ) → 0 < n → (s : List ℕ) → All Digit s → n ≡ digits_after 0 s → n < 10 ^ 18 → IsCanonical 18 s → s ≡ whole_text n
whole_text_is n some s all is below canonical = number_text_is n s all is below canonical ∙ text_of_whole n some ∙ sym (whole_some n some)

-- and digits with a 0 in front are so only if they are `0`
pub front_of_canonical : (s : List ℕ) → All Digit s → length s ≤ 18 → IsCanonical 18 s → (s ≡ 48 ∷ []) ⊎ NoZeroInFront s
front_of_canonical s all short canonical = by_value (digits_after 0 s) refl
  where
    by_value : (n : ℕ) → digits_after 0 s ≡ n → (s ≡ 48 ∷ []) ⊎ NoZeroInFront s
    by_value zero is = inl (zero_text s all (sym is) canonical)
    by_value (suc n) is =
        let below : suc n < 10 ^ 18 = subst (λ (m : ℕ). m < 10 ^ 18) is (short_below s all short) in
        inr (subst NoZeroInFront (sym (whole_text_is (suc n) (omega arith) s all (sym is) below canonical)) (whole_front (suc n) (omega arith)))
