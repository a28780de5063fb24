-- SPDX-License-Identifier: Apache-2.0
-- The rows around a place.
use Rattle.mmemory.proofs.MemoryWords.{◌≡◌, ℕ, zero, suc, ◌+◌, ◌≤◌, List, [], ◌∷◌, ◌++◌, length, take, drop, get_or, slice_get, Some, refl, sym, ap, ◌∙◌, arith}
use Rattle.mmemory.proofs.MemoryWords.{add-one, append_assoc, flat_map, take-append-drop, append-nil, take-nil, drop-nil, flat_map-append, Row, Place, joined}
use Rattle.mmemory.proofs.MemoryWords.{before, after}

module _ {A : Type 0} (f : A → List Row) (d : A) (none : f d ≡ []) where
  -- a list from a place on: what stands there, and the rest
  pub from_place : (xs : List A) (k : ℕ) → flat_map f (drop k xs) ≡ f (get_or xs k d) ++ flat_map f (drop (k + 1) xs)
  from_place [] k = simp (drop-nil, none)
  from_place (x ∷ xs) zero = refl
  from_place (x ∷ xs) (suc k) =
      let rest : flat_map f (drop k xs) ≡ f (get_or xs k d) ++ flat_map f (drop (k + 1) xs) = from_place xs k in
      rw (add-one (suc k)) (rw (add-one k) at rest)

  pub up_to_place : (xs : List A) (k : ℕ) → flat_map f (take (k + 1) xs) ≡ flat_map f (take k xs) ++ f (get_or xs k d)
  up_to_place [] k = simp (take-nil, none)
  up_to_place (x ∷ xs) zero = append-nil (f x)
  up_to_place (x ∷ xs) (suc k) =
      let rest : flat_map f (take (k + 1) xs) ≡ flat_map f (take k xs) ++ f (get_or xs k d) = up_to_place xs k in
      rw (add-one (suc k)) (ap (λ l. f x ++ l) (rw (add-one k) at rest) ∙ sym (append_assoc (f x) (flat_map f (take k xs)) (f (get_or xs k d))))

  pub around : (xs : List A) (k : ℕ) → flat_map f xs ≡ flat_map f (take k xs) ++ (f (get_or xs k d) ++ flat_map f (drop (k + 1) xs))
  around xs k = ap (flat_map f) (sym (take-append-drop k xs)) ∙ flat_map-append f (take k xs) (drop k xs) ∙ ap (λ l. flat_map f (take k xs) ++ l) (from_place xs k)

pub whole : (n : List (List Row)) (p : Place) → joined n ≡ before n p ++ after n p
whole n p =
    let rows = get_or n p.chunk [] in
    around (λ r. r) [] refl n p.chunk ∙ ap (λ r. joined (take p.chunk n) ++ (r ++ joined (drop (p.chunk + 1) n))) (sym (take-append-drop p.row rows))
    ∙ sewn (joined (take p.chunk n)) (take p.row rows) (drop p.row rows) (joined (drop (p.chunk + 1) n))
  where
    sewn : (a b c d : List Row) → a ++ ((b ++ c) ++ d) ≡ (a ++ b) ++ (c ++ d)
    sewn a b c d = simp append_assoc

-- ---- what follows a place, and what comes before it

pub drop_at : {A : Type 0} (xs : List A) (k : ℕ) (x : A) → slice_get xs k ≡ Some x → drop k xs ≡ x ∷ drop (k + 1) xs
drop_at [] k x found = absurd (cc)
drop_at (y ∷ xs) zero x found = let same : y ≡ x = cc in rw same
drop_at (y ∷ xs) (suc k) x found =
    let rest : drop k xs ≡ x ∷ drop (k + 1) xs = drop_at xs k x found in
    rw (add-one (suc k)) (rw (add-one k) at rest)

pub take_at : {A : Type 0} (xs : List A) (k : ℕ) (x : A) → slice_get xs k ≡ Some x → take (k + 1) xs ≡ take k xs ++ x ∷ []
take_at [] k x found = absurd (cc)
take_at (y ∷ xs) zero x found = let same : y ≡ x = cc in rw same
take_at (y ∷ xs) (suc k) x found =
    let rest : take (k + 1) xs ≡ take k xs ++ x ∷ [] = take_at xs k x found in
    rw (add-one (suc k)) (ap (λ l. y ∷ l) (rw (add-one k) at rest))

pub take_past : {A : Type 0} (n : ℕ) (xs : List A) → length xs ≤ n → take n xs ≡ xs
take_past zero [] h = refl
take_past (suc n) [] h = refl
take_past zero (x ∷ xs) h = absurd (omega arith)
take_past (suc n) (x ∷ xs) h = ap (λ l. x ∷ l) (take_past n xs (omega arith))
