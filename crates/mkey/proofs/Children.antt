-- SPDX-License-Identifier: Apache-2.0
-- The first and the last subscript that a test takes, of those that come next after a place.
use Rattle.mkey.proofs.KeyWords.{◌≡◌, ℕ, zero, suc, ◌-◌, ◌<◌, ◌+◌, ◌≤◌, Bool, true, ◌&&◌, cond, List, [], ◌∷◌, ◌++◌, length, drop, reverse, All, Option, Some}
use Rattle.mkey.proofs.KeyWords.{None, refl, sym, ap, ◌∙◌, subst, arith, append-nil, length-append, ℤ, slice_get, option_and_then, is_some, bytes_decides, find}
use Rattle.mkey.proofs.KeyWords.{flat_map, option_to_list, is_lt, nat_tests, reverse-append, drop_all, flat_map-append, All-push, starts_is, drop-cons}
use Rattle.mkey.proofs.KeyWords.{IsSubscript, AreSubscripts, canonical_value, place, place_by, place_cmp, significant_digits, is_within, is_below, child_of}
use Rattle.mkey.proofs.KeyWords.{is_before, is_empty, front, last, AreOrderSubscripts, passes, false, nat_lt, take-append-drop, Text}

pub at_front : {X : Type 0} (ys : List X) (n : ℕ) → slice_get ys n ≡ slice_get (drop n ys) 0
at_front [] zero = refl
at_front [] (suc n) = refl
at_front (y ∷ ys) zero = refl
at_front (y ∷ ys) (suc n) = at_front ys n

-- ---- what is found among the subscripts of many

one_reversed : (o : Option Text) → reverse (option_to_list o) ≡ option_to_list o
one_reversed None = refl
one_reversed (Some c) = refl

module _ {K : Type 0} (child : K → Option Text) where
  abbrev pub children_by : List K → List Text
  children_by ks = flat_map (λ k. option_to_list (child k)) ks

  pub find_child : (p : Text → Bool) (ks : List K) → find p (children_by ks) ≡ option_and_then child (find (λ k. passes p (child k)) ks)
  find_child p [] = refl
  find_child p (k ∷ ks) = by_child (child k) refl (find_child p ks)
    where
      here : (b : Bool) (c : Text) → child k ≡ Some c → (find p (children_by ks) ≡ option_and_then child (find (λ k. passes p (child k)) ks)) → cond b (Some c) (find p (children_by ks)) ≡ option_and_then child (cond b (Some k) (find (λ k. passes p (child k)) ks))
      here true c e rest = sym e
      here false c e rest = rest

      by_child : (o : Option Text) → child k ≡ o → (find p (children_by ks) ≡ option_and_then child (find (λ k. passes p (child k)) ks)) → find p (option_to_list o ++ children_by ks) ≡ option_and_then child (cond (passes p o) (Some k) (find (λ k. passes p (child k)) ks))
      by_child None e rest = rest
      by_child (Some c) e rest = here (p c) c e rest

  children_reversed : (ks : List K) → reverse (children_by ks) ≡ children_by (reverse ks)
  children_reversed [] = refl
  children_reversed (k ∷ ks) =
      let f : K → List Text = λ q. option_to_list (child q) in
      reverse-append (f k) (children_by ks)
      ∙ ap (λ l. l ++ reverse (f k)) (children_reversed ks)
      ∙ ap (λ l. children_by (reverse ks) ++ l) (one_reversed (child k) ∙ sym (append-nil (f k)))
      ∙ sym (flat_map-append f (reverse ks) (k ∷ []))
      ∙ sym (ap (flat_map f) (reverse-append (k ∷ []) ks))

  pub find_last_child : (p : Text → Bool) (ks : List K) → find p (reverse (children_by ks)) ≡ option_and_then child (find (λ k. passes p (child k)) (reverse ks))
  find_last_child p ks = ap (find p) (children_reversed ks) ∙ find_child p (reverse ks)

-- ---- what is below

pub below_is : (xs ys : List Text) → passes (λ c. true) (child_of xs ys) ≡ is_below xs ys
below_is xs ys = here (is_within xs ys) refl
  where
    more : (d : List Text) (n m : ℕ) → n ≡ m + length d → is_some (slice_get d 0) ≡ nat_lt m n
    more [] n m e = grind (arith, nat_tests)
    more (c ∷ d) n m e = grind (arith, nat_tests)

    passed : (o : Option Text) → passes (λ c. true) o ≡ is_some o
    passed None = refl
    passed (Some c) = refl

    here : (b : Bool) → is_within xs ys ≡ b → passes (λ c. true) (cond b (slice_get ys (length xs)) None) ≡ (b && nat_lt (length xs) (length ys))
    here false e = refl
    here true e =
        let split : ys ≡ xs ++ drop (length xs) ys = (starts_is bytes_decides ys xs (is_within xs ys) refl).0 e in
        passed (slice_get ys (length xs)) ∙ ap is_some (at_front ys (length xs))
        ∙ more (drop (length xs) ys) (length ys) (length xs) (ap length split ∙ length-append xs (drop (length xs) ys))

-- ---- the empty text

-- it comes before all subscripts
pub empty_first : (s : Text) → 0 < length s → is_before [] s ≡ true
empty_first [] some = absurd (omega arith)
empty_first (c ∷ s) some = by_value (canonical_value significant_digits (c ∷ s))
  where
    by_value : (o : Option ℤ) → is_lt (place_cmp (place significant_digits []) (place_by (c ∷ s) o)) ≡ true
    by_value (Some u) = refl
    by_value None = refl

pub not_empty : (x : Text) → 0 < length x → is_empty x ≡ false
not_empty [] some = absurd (omega arith)
not_empty (c ∷ x) some = refl

pub no_list : {X : Type 0} (xs : List X) → length xs ≡ 0 → xs ≡ []
no_list [] e = refl
no_list (x ∷ xs) e = absurd (omega arith)

-- ---- the subscripts of $ORDER

pub split_last : (xs : List Text) → 0 < length xs → xs ≡ front xs ++ last xs ∷ []
split_last xs some =
    let inside : length xs - 1 < length xs = omega arith in
    let past : length xs ≤ suc (length xs - 1) = omega arith in
    sym (take-append-drop (length xs - 1) xs)
    ∙ ap (λ l. front xs ++ l) (drop-cons xs (length xs - 1) [] inside ∙ ap (λ l. last xs ∷ l) (drop_all (suc (length xs - 1)) xs past))

-- with a last that is not empty they are those of a node
pub whole : (xs : List Text) → AreOrderSubscripts xs → 0 < length (last xs) → AreSubscripts xs
whole xs subs some = record {
  few = subs.few;
  each = subst (All IsSubscript) (sym (split_last xs subs.some)) (All-push IsSubscript (front xs) (last xs) subs.before.each (record { some = some; few = subs.short }));
}
