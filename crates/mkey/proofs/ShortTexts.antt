-- SPDX-License-Identifier: Apache-2.0
-- The canonical value of a text, as code finds it.
use Rattle.mkey.proofs.KeyWords.{ℕ, ◌≡◌, ◌⊎◌, inl, inr, ◌*◌, ◌^◌, ◌<◌, ◌≤◌, true, Option, Some, None, List, [], ◌∷◌, length, get_or, All, refl, sym, ◌∙◌, subst}
use Rattle.mkey.proofs.KeyWords.{arith, ℤ, pos, unsigned_abs, IfSome, OnSome, numeric_value, IsCanonical, canonical_value, canonical_of_value}
use Rattle.mkey.proofs.KeyWords.{value_of_canonical, value_in_range}
use Rattle.mspec.specs.Literal.{is_digit, digits_after}
use Rattle.mspec.proofs.WholeTexts.{value_of_digits, zero_is_canonical, whole_is_canonical}

-- a canonical text's value is the one that is read
pub value_where_canonical : (s : List ℕ) (u : ℤ) → IsCanonical 18 s → numeric_value 18 s ≡ Some u → canonical_value 18 s ≡ Some u
value_where_canonical s u canonical read = value_of_canonical 18 s canonical ∙ sym canonical.value ∙ read

-- any other text has none
pub none_where_other : (kept : ℕ) (s : List ℕ) → (IsCanonical kept s → ⊥) → canonical_value kept s ≡ None
none_where_other kept s other = here (canonical_value kept s) refl
  where
    here : (o : Option ℤ) → canonical_value kept s ≡ o → o ≡ None
    here None e = refl
    here (Some u) e = let is = canonical_of_value kept s u e in absurd (other (record { number = u; value = is.0; text = is.1 }))

pub value_fits : (kept : ℕ) (s : List ℕ) (u : ℤ) → canonical_value kept s ≡ Some u → unsigned_abs u < 10 ^ 36
value_fits kept s u e = value_in_range kept s u (canonical_of_value kept s u e).0

-- one to eighteen digits, of which the first is not 0 or stands alone
pub short_is_canonical : (s : List ℕ) → 0 < length s → length s ≤ 18 → ((get_or s 0 0 ≡ 48) × (length s ≤ 1)) ⊎ (get_or s 0 0 ≡ 48 → ⊥) → All (λ c. is_digit c ≡ true) s → IsCanonical 18 s
short_is_canonical [] some short front all = absurd (omega arith)
short_is_canonical (c ∷ []) some short (inl zero) all = subst (λ (x : ℕ). IsCanonical 18 (x ∷ [])) (sym zero.0) zero_is_canonical
short_is_canonical (c ∷ d ∷ s) some short (inl zero) all = absurd (omega arith)
short_is_canonical (c ∷ s) some short (inr other) all = whole_is_canonical c s all other short

pub short_value : (n : ℕ) (s : List ℕ) → 0 < length s → length s ≤ 18 → ((get_or s 0 0 ≡ 48) × (length s ≤ 1)) ⊎ (get_or s 0 0 ≡ 48 → ⊥) → n < 10 ^ 18 → n ≡ digits_after 0 s → All (λ c. is_digit c ≡ true) s
    → canonical_value 18 s ≡ Some (pos (n * 10 ^ 18))
short_value n s some short front below is all =
    value_where_canonical s (pos (n * 10 ^ 18)) (short_is_canonical s some short front all) (value_of_digits s n all is below)

-- the same of a number that may be there
pub short_values : (r : Option ℕ) (s : List ℕ) → 0 < length s → ((get_or s 0 0 ≡ 48) × (length s ≤ 1)) ⊎ (get_or s 0 0 ≡ 48 → ⊥) → OnSome r (length s ≤ 18)
    → IfSome r (λ n. (n < 10 ^ 18) × (n ≡ digits_after 0 s) × All (λ c. is_digit c ≡ true) s) → IfSome r (λ n. canonical_value 18 s ≡ Some (pos (n * 10 ^ 18)))
short_values None s some front short is = tt
short_values (Some n) s some front short is = short_value n s some short front is.0 is.1 is.2
