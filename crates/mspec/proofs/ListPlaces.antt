-- SPDX-License-Identifier: Apache-2.0
-- Lists from a place on.
use Rattle.mspec.proofs.SpecWords.{◌≡◌, ℕ, zero, suc, ◌+◌, ◌<◌, ◌≤◌, List, [], ◌∷◌, length, drop, get_or, drop-cons, add-one, refl, sym, ◌∙◌, arith}

-- the item at the place, with those after it
pub next_item : {A : Type 0} (xs : List A) (i : ℕ) (d : A) → i < length xs → d ≡ get_or xs i d → drop i xs ≡ d ∷ drop (i + 1) xs
next_item xs i d h e = drop-cons xs i d h ∙ (λ j. sym e j ∷ drop (suc i) xs) ∙ rw (sym (add-one i)) refl

-- none after the last
pub none_left : {A : Type 0} (i : ℕ) (xs : List A) → length xs ≤ i → drop i xs ≡ []
none_left zero [] h = refl
none_left zero (x ∷ xs) h = absurd (omega arith)
none_left (suc i) [] h = refl
none_left (suc i) (x ∷ xs) h = none_left i xs (omega arith)
