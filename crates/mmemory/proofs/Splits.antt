-- SPDX-License-Identifier: Apache-2.0
-- A binary search finds where the rows cease to pass.
use Rattle.mmemory.proofs.MemoryWords.{slice_get-get_or, ◌≡◌, ◌≢◌, ℕ, zero, suc, ◌+◌, ◌-◌, ◌<◌, ◌≤◌, max, Bool, true, false, List, [], ◌∷◌, ◌++◌, length, map}
use Rattle.mmemory.proofs.MemoryWords.{take, drop, get_or, slice_get, Some, refl, sym, ap, subst, ◌∙◌, arith, add-one, true≢false, inl, inr, eq-or-lt_of_le}
use Rattle.mmemory.proofs.MemoryWords.{flat_map, AllByRecursion, take-append-drop, Row, IsAscending, all-append, all_weaker, not_true, IsEdge, Falls}
use Rattle.mmemory.proofs.Shown.{drop_past}
use Rattle.mmemory.proofs.Nests.{around, from_place, drop_at, take_at}

module _ {A : Type 0} (P : A → Type 0) where
  pub all_left : (xs ys : List A) → AllByRecursion P (xs ++ ys) → AllByRecursion P xs
  all_left [] ys h = tt
  all_left (x ∷ xs) ys h = (h.0, all_left xs ys h.1)

  pub all_right : (xs ys : List A) → AllByRecursion P (xs ++ ys) → AllByRecursion P ys
  all_right [] ys h = h
  all_right (x ∷ xs) ys h = all_right xs ys h.1

module _ {A : Type 0} (R : A → A → Type 0) where
  pub up_left : (xs ys : List A) → IsAscending R (xs ++ ys) → IsAscending R xs
  up_left [] ys h = tt
  up_left (x ∷ xs) ys h = (all_left (R x) xs ys h.0, up_left xs ys h.1)

  pub up_right : (xs ys : List A) → IsAscending R (xs ++ ys) → IsAscending R ys
  up_right [] ys h = h
  up_right (x ∷ xs) ys h = up_right xs ys h.1

pub begun : {A : Type 0} (xs : List A) (d : A) → xs ≢ [] → xs ≡ get_or xs 0 d ∷ drop 1 xs
begun [] d h = absurd (h refl)
begun (x ∷ xs) d h = refl

pub all_at : {A : Type 0} (P : A → Type 0) (xs : List A) (k : ℕ) (d : A) → k < length xs → AllByRecursion P xs → P (get_or xs k d)
all_at P [] k d within h = absurd (omega arith)
all_at P (x ∷ xs) zero d within h = h.0
all_at P (x ∷ xs) (suc k) d within h = all_at P xs k d (omega arith) h.1

module _ (test : Row → Bool) where
  -- one row that passes, and one that fails
  passed_before : (front : List Row) (row : Row) (back : List Row) → Falls test (front ++ row ∷ back) → test row ≡ true
      → AllByRecursion (λ r. test r ≡ true) front
  passed_before [] row back up h = tt
  passed_before (x ∷ front) row back up h = ((all_right _ front (row ∷ back) up.0).0 h, passed_before front row back up.1 h)

  pub failed_after : (front : List Row) (row : Row) (back : List Row) → Falls test (front ++ row ∷ back) → test row ≡ false
      → AllByRecursion (λ r. test r ≡ false) (row ∷ back)
  failed_after [] row back up h =
      (h, all_weaker _ (λ r. test r ≡ false) (λ r falls. not_true (test r) (λ passes. true≢false (sym (falls passes) ∙ h))) back up.0)
  failed_after (x ∷ front) row back up h = failed_after front row back up.1 h

  pub rows_passed : (rows : List Row) (at : ℕ) → Falls test rows → at ≤ length rows → IsEdge test rows at → AllByRecursion (λ r. test r ≡ true) (take at rows)
  rows_passed rows zero up within edge = tt
  rows_passed rows (suc k) up within edge =
      let here = slice_get-get_or rows k [] (omega arith) in
      let row = get_or rows k [] in
      let passes : test row ≡ true = edge.last k row (omega arith) here in
      let up2 = subst (Falls test) (sym (take-append-drop k rows) ∙ ap (λ l. take k rows ++ l) (drop_at rows k row here)) up in
      subst (AllByRecursion (λ r. test r ≡ true)) (sym (take_at rows k row here) ∙ ap (λ n. take n rows) (add-one k))
      (all-append _ (take k rows) (row ∷ []) (passed_before (take k rows) row (drop (k + 1) rows) up2 passes) (passes, tt))

  pub rows_failed : (rows : List Row) (at : ℕ) → Falls test rows → at ≤ length rows → IsEdge test rows at → AllByRecursion (λ r. test r ≡ false) (drop at rows)
  rows_failed rows at up within edge = elim (eq-or-lt_of_le within) [
    | inl same ↦ rw (drop_past at rows (omega arith)) tt
    | inr below ↦
        let here = slice_get-get_or rows at [] below in
        let row = get_or rows at [] in
        let up2 = subst (Falls test) (sym (take-append-drop at rows) ∙ ap (λ l. take at rows ++ l) (drop_at rows at row here)) up in
        rw (drop_at rows at row here) (failed_after (take at rows) row (drop (at + 1) rows) up2 (edge.first row here))
  ]

  module _ {A : Type 0} (f : A → List Row) (d : A) (none : f d ≡ []) (xs : List A) (up : Falls test (flat_map f xs)) (some : AllByRecursion (λ x. f x ≢ []) xs) where
    -- the rows around the first row of a part
    led : (k : ℕ) → k < length xs
        → Falls test (flat_map f (take k xs) ++ get_or (f (get_or xs k d)) 0 [] ∷ (drop 1 (f (get_or xs k d)) ++ flat_map f (drop (k + 1) xs)))
    led k low =
        subst (Falls test)
        (around f d none xs k ∙ ap (λ l. flat_map f (take k xs) ++ (l ++ flat_map f (drop (k + 1) xs))) (begun (f (get_or xs k d)) [] (all_at _ xs k d low some))) up

    pub passed_to : (k : ℕ) → k < length xs → test (get_or (f (get_or xs k d)) 0 []) ≡ true
        → AllByRecursion (λ r. test r ≡ true) (flat_map f (take k xs))
    passed_to k low h = passed_before _ _ _ (led k low) h

    pub failed_on : (k : ℕ) → k < length xs → test (get_or (f (get_or xs k d)) 0 []) ≡ false
        → AllByRecursion (λ r. test r ≡ false) (flat_map f (drop k xs))
    failed_on k low h =
        subst (AllByRecursion (λ r. test r ≡ false))
        (sym (from_place f d none xs k ∙ ap (λ l. l ++ flat_map f (drop (k + 1) xs)) (begun (f (get_or xs k d)) [] (all_at _ xs k d low some))))
        (failed_after _ _ _ (led k low) h)

  module _ {A : Type 0} (f : A → List Row) (d : A) (none : f d ≡ []) (xs : List A) (at : ℕ) (up : Falls test (flat_map f xs)) (within : at ≤ length xs)
      (some : AllByRecursion (λ x. f x ≢ []) xs) (edge : IsEdge (λ x. test (get_or (f x) 0 [])) xs at) where
    pub parts_passed : AllByRecursion (λ r. test r ≡ true) (flat_map f (take (max at 1 - 1) xs))
    parts_passed = go at refl
      where
        go : (e : ℕ) → at ≡ e → AllByRecursion (λ r. test r ≡ true) (flat_map f (take (max e 1 - 1) xs))
        go zero is = tt
        go (suc k) is =
            let low : k < length xs = omega arith in
            let here : max (suc k) 1 - 1 ≡ k = omega arith in
            rw here (passed_to f d none xs up some k low (edge.last k (get_or xs k d) (omega arith) (slice_get-get_or xs k d low)))

    failed_from : AllByRecursion (λ r. test r ≡ false) (flat_map f (drop at xs))
    failed_from = elim (eq-or-lt_of_le within) [
      | inl same ↦ rw (drop_past at xs (omega arith)) tt
      | inr low ↦ failed_on f d none xs up some at low (edge.first (get_or xs at d) (slice_get-get_or xs at d low))
    ]

    pub parts_failed : AllByRecursion (λ r. test r ≡ false) (flat_map f (drop (max at 1 - 1 + 1) xs))
    parts_failed = go at refl
      where
        go : (e : ℕ) → at ≡ e → AllByRecursion (λ r. test r ≡ false) (flat_map f (drop (max e 1 - 1 + 1) xs))
        go zero is =
            all_right _ (f (get_or xs 0 d)) (flat_map f (drop 1 xs))
            (subst (AllByRecursion (λ r. test r ≡ false)) (from_place f d none xs 0) (rw is at failed_from))
        go (suc k) is = let here : max (suc k) 1 - 1 + 1 ≡ suc k = omega arith in rw here (rw is at failed_from)

pub edge_map : {A B : Type 0} (h : A → B) (t : B → Bool) (xs : List A) (at : ℕ) → IsEdge (λ x. t (h x)) xs at → IsEdge t (map h xs) at
edge_map h t xs at edge = record {
  last = λ k part is found. let it = came_from h xs k part found in sym (ap t it.2) ∙ edge.last k it.0 is it.1;
  first = λ part found. let it = came_from h xs at part found in sym (ap t it.2) ∙ edge.first it.0 it.1;
}
  where
    came_from : {A B : Type 0} (h : A → B) (xs : List A) (k : ℕ) (b : B) → slice_get (map h xs) k ≡ Some b → (a : A) × (slice_get xs k ≡ Some a) × (h a ≡ b)
    came_from h [] k b found = absurd (cc)
    came_from h (x ∷ xs) zero b found = (x, refl, cc)
    came_from h (x ∷ xs) (suc k) b found = came_from h xs k b found
