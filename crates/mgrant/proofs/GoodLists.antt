-- SPDX-License-Identifier: Apache-2.0
-- Lists of which each element passes a test and none is there twice: one more element, and those that do not.
use Rattle.mgrant.proofs.GrantWords.{◌≡◌, inl, inr, Bool, true, false, List, [], ◌∷◌, ◌++◌, refl, sym, ap, ◌∙◌, append_assoc, not, ◌&&◌, ◌||◌, list_any}
use Rattle.mgrant.proofs.GrantWords.{list_all, false≢true, cases_Bool, and_left, and_right, list_any-append, list_all-append, are_distinct}

-- each passes, and none is there twice
abbrev pub are_good : {X : Type 0} → (X → Bool) → (X → X → Bool) → List X → Bool
are_good each same xs = list_all each xs && are_distinct same xs

around : (a s d l : Bool) → (not (a || (s || false)) && (d && not l)) ≡ ((not a && d) && not (s || l))
around true true d l = refl
around true false d l = refl
around false true true l = refl
around false true false l = refl
around false false true l = refl
around false false false l = refl

regrouped : (p d e l : Bool) → ((p && (e && true)) && (d && not l)) ≡ ((p && d) && (e && not l))
regrouped true true true l = refl
regrouped true true false l = refl
regrouped true false true l = refl
regrouped true false false l = refl
regrouped false d e l = refl

module _ {X : Type 0} (each : X → Bool) (same : X → X → Bool) (symmetric : (x y : X) → same x y ≡ same y x) where
  distinct_push : (xs : List X) (x : X) → are_distinct same (xs ++ x ∷ []) ≡ (are_distinct same xs && not (list_any (same x) xs))
  distinct_push [] x = refl
  distinct_push (y ∷ ys) x =
      rw (list_any-append (same y) ys (x ∷ []), distinct_push ys x, symmetric x y) (around (list_any (same y) ys) (same y x) (are_distinct same ys) (list_any (same x) ys))

  pub good_push : (xs : List X) (x : X) → are_good each same (xs ++ x ∷ []) ≡ (are_good each same xs && (each x && not (list_any (same x) xs)))
  good_push xs x =
      rw (list_all-append each xs (x ∷ []), distinct_push xs x) (regrouped (list_all each xs) (are_distinct same xs) (each x) (list_any (same x) xs))

  distinct_front : (xs ys : List X) → are_distinct same xs ≡ false → are_distinct same (xs ++ ys) ≡ false
  distinct_front [] ys e = absurd (false≢true (sym e))
  distinct_front (x ∷ xs) ys e =
      elim (cases_Bool (list_any (same x) xs)) [
        | inl twice ↦ rw (list_any-append (same x) xs ys, twice) refl
        | inr once ↦ and_right (not (list_any (same x) (xs ++ ys))) _ (distinct_front xs ys (rw once at e))
      ]

  -- a front that is not good spoils the whole
  pub good_front : (xs ys : List X) → are_good each same xs ≡ false → are_good each same (xs ++ ys) ≡ false
  good_front xs ys e =
      elim (cases_Bool (list_all each xs)) [
        | inl all ↦ and_right (list_all each (xs ++ ys)) _ (distinct_front xs ys (rw all at e))
        | inr not_all ↦ and_left _ (are_distinct same (xs ++ ys)) (list_all-append each xs ys ∙ and_left _ (list_all each ys) not_all)
      ]

  -- an element that fails, or stands before, spoils the whole
  pub good_fails : (xs : List X) (x : X) (ys : List X) → (each x && not (list_any (same x) xs)) ≡ false → are_good each same (xs ++ x ∷ ys) ≡ false
  good_fails xs x ys e =
      ap (are_good each same) (sym (append_assoc xs (x ∷ []) ys))
      ∙ good_front (xs ++ x ∷ []) ys (good_push xs x ∙ and_right (are_good each same xs) _ e)
