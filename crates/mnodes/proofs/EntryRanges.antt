-- SPDX-License-Identifier: Apache-2.0
-- The entries within bounds of bytes.
use Rattle.mnodes.proofs.Words.{◌≡◌, ℕ, zero, suc, ◌-◌, ◌<◌, Bool, true, false, cond, ◌&&◌, List, [], ◌∷◌, ◌++◌, map, reverse, length, slice_index_or}
use Rattle.mnodes.proofs.Words.{slice_get, take, drop, Option, Some, None, if◌then◌else◌, refl, sym, ap, ◌∙◌, arith, Ordering, Less, Equal, Greater}
use Rattle.mnodes.proofs.Words.{false_from_ne_true, slice_cmp, nat_list_cmp_total, option_or, ordering_reverse, length-drop, reverse-append, take_all}
use Rattle.mnodes.proofs.Words.{find-append, is_between, next_key, previous_key, Entry, held, bytes_of, is_before, key_within, AreEntries, IsPlaceOf, find}
use Rattle.mnodes.proofs.Words.{nat_cmp, is_lt, is_le}
use Rattle.mnodes.proofs.SortedEntries.{less, first, keys_held, keys_rise}

-- ---- bytes in order

pub and_no : (a b : Bool) → b ≡ false → (a && b) ≡ false
and_no a b h = grind arith

pub not_both : {P : Type 0} (b : Bool) → b ≡ true → b ≡ false → P
not_both true e f = absurd (cc)
not_both false e f = absurd (cc)

module _ (a b c : List ℕ) where
  -- what is less is less than what is greater
  pub less_than : slice_cmp nat_cmp a b ≡ Less → is_lt (slice_cmp nat_cmp b c) ≡ true → is_lt (slice_cmp nat_cmp a c) ≡ true
  less_than e f = ap is_lt (nat_list_cmp_total.trans a b c e (less _ f))

  pub not_less_than : slice_cmp nat_cmp a b ≡ Less → is_lt (slice_cmp nat_cmp a c) ≡ false → is_lt (slice_cmp nat_cmp b c) ≡ false
  not_less_than e f = false_from_ne_true _ (λ g. not_both _ (less_than e g) f)

  at_most_by : (o : Ordering) → slice_cmp nat_cmp a b ≡ o → is_le o ≡ true → slice_cmp nat_cmp b c ≡ Less → is_le (slice_cmp nat_cmp a c) ≡ true
  at_most_by Less e f g = ap is_le (nat_list_cmp_total.trans a b c e g)
  at_most_by Equal e f g = ap is_le (nat_list_cmp_total.congr a b c e ∙ g)
  at_most_by Greater e f g = absurd (cc)

  pub at_most : is_le (slice_cmp nat_cmp a b) ≡ true → slice_cmp nat_cmp b c ≡ Less → is_le (slice_cmp nat_cmp a c) ≡ true
  at_most f g = at_most_by _ refl f g

turned : (o : Ordering) → is_le (ordering_reverse o) ≡ true → is_lt o ≡ false
turned o h = grind arith

turned_back : (o : Ordering) → is_lt o ≡ false → is_le (ordering_reverse o) ≡ true
turned_back o h = grind arith

-- `a <= b` if not `b < a`
pub from_on : (a b : List ℕ) → is_lt (slice_cmp nat_cmp b a) ≡ false → is_le (slice_cmp nat_cmp a b) ≡ true
from_on a b e = ap is_le (nat_list_cmp_total.antisymm a b) ∙ turned_back _ e

pub not_from : (a b : List ℕ) → is_lt (slice_cmp nat_cmp b a) ≡ true → is_le (slice_cmp nat_cmp a b) ≡ false
not_from a b e = false_from_ne_true _ (λ f. not_both _ e (turned _ (ap is_le (sym (nat_list_cmp_total.antisymm a b)) ∙ f)))

-- ---- the key of one entry

module _ (low high : List ℕ) (e : Entry) where
  pub within_yes : (bytes : List ℕ) → bytes ≡ bytes_of e → is_le (slice_cmp nat_cmp low (bytes_of e)) ≡ true → is_lt (slice_cmp nat_cmp (bytes_of e) high) ≡ true → Some bytes ≡ key_within low high (Some e)
  within_yes bytes is from before = grind arith

  pub without_low : is_le (slice_cmp nat_cmp low (bytes_of e)) ≡ false → None ≡ key_within low high (Some e)
  without_low out = sym (ap (λ a. if a && is_lt (slice_cmp nat_cmp (bytes_of e) high) then Some (bytes_of e) else None) out)

  pub without_high : is_lt (slice_cmp nat_cmp (bytes_of e) high) ≡ false → None ≡ key_within low high (Some e)
  without_high out = sym (ap (λ b. if b then Some (bytes_of e) else None) (and_no _ _ out))

-- ---- the first key within bounds

-- keys rise along the list
abbrev Rise : List Entry → Type 0
Rise es = (i j : ℕ) (d : Entry) → i < j → j < length es → slice_cmp nat_cmp (bytes_of (slice_index_or es i d)) (bytes_of (slice_index_or es j d)) ≡ Less

abbrev NoneWithin : List ℕ → List ℕ → List Entry → Type 0
NoneWithin low high es = (k : ℕ) (d : Entry) → k < length es → is_between low high (bytes_of (slice_index_or es k d)) ≡ false

rest_rise : (e : Entry) (es : List Entry) → Rise (e ∷ es) → Rise es
rest_rise e es rise i j d lt in_range = rise (suc i) (suc j) d (omega arith) (omega arith)

one_or_none : (b : Bool) (x : List ℕ) (o : Option (List ℕ)) → (b ≡ false → o ≡ None) → cond b (Some x) o ≡ (if b then Some x else None)
one_or_none b x o h = grind arith

module _ (low high : List ℕ) where
  found_none : (es : List Entry) → NoneWithin low high es → find (is_between low high) (map bytes_of es) ≡ None
  found_none [] none = refl
  found_none (e ∷ es) none = grind (arith, none 0 e (omega arith), found_none es (λ k d in_range. none (suc k) d (omega arith)))

  second_no : (a b : Bool) → a ≡ true → (a && b) ≡ false → b ≡ false
  second_no a b h e = grind arith

  none_behind : (e : Entry) (es : List Entry) → Rise (e ∷ es) → is_before low e ≡ false → is_between low high (bytes_of e) ≡ false → NoneWithin low high es
  none_behind e es rise from out k d in_range =
      let not_below = second_no _ _ (from_on low (bytes_of e) from) out in
      and_no _ _ (not_less_than (bytes_of e) (bytes_of (slice_index_or es k d)) high (rise 0 (suc k) d (omega arith) (omega arith)) not_below)

  first_found : (es : List Entry) → Rise es → (i : ℕ) → IsPlaceOf es low i → find (is_between low high) (map bytes_of es) ≡ key_within low high (slice_get (drop i es) 0)
  first_found [] rise zero place = refl
  first_found [] rise (suc i) place = refl
  first_found (e ∷ es) rise zero place =
      one_or_none _ (bytes_of e) _ (λ out. found_none es (none_behind e es rise (place.1 0 e (omega arith) (omega arith)) out))
  first_found (e ∷ es) rise (suc i) place =
      ap (λ a. cond (a && is_lt (slice_cmp nat_cmp (bytes_of e) high)) (Some (bytes_of e)) (find (is_between low high) (map bytes_of es))) (not_from low (bytes_of e) (place.0 0 e (omega arith) (omega arith)))
      ∙ first_found es (rest_rise e es rise) i (λ k d from below. place.0 (suc k) d (omega arith) (omega arith), λ k d from below. place.1 (suc k) d (omega arith) (omega arith))

  pub next_found : (es : List Entry) → AreEntries es → (i : ℕ) → IsPlaceOf es low i → key_within low high (slice_get (drop i es) 0) ≡ next_key (held es) low high
  next_found es are i place = sym (ap (find (is_between low high)) (keys_held es are.sorted) ∙ first_found es (keys_rise es are) i place)

-- the first of what is left is the first of the rest
pub first_of_rest : (es : List Entry) (i : ℕ) → slice_get (take (length es - i) (drop i es)) 0 ≡ slice_get (drop i es) 0
first_of_rest es i = ap (λ l. slice_get l 0) (take_all (length es - i) (drop i es) (omega (arith, length-drop i es)))

-- ---- the last key within bounds

reverse-cons : (x : List ℕ) (xs : List (List ℕ)) → reverse (x ∷ xs) ≡ reverse xs ++ x ∷ []
reverse-cons x xs = reverse-append (x ∷ []) xs

or_none : (o : Option (List ℕ)) → option_or o None ≡ o
or_none o = grind arith

absorbed : (o : Option (List ℕ)) (x : List ℕ) (p : Option (List ℕ)) → option_or (option_or o (Some x)) p ≡ option_or o (Some x)
absorbed o x p = grind arith

module _ (low high : List ℕ) where
  one : Entry → Option (List ℕ)
  one e = cond (is_between low high (bytes_of e)) (Some (bytes_of e)) None

  backward : List Entry → Option (List ℕ)
  backward es = find (is_between low high) (reverse (map bytes_of es))

  backward-cons : (e : Entry) (es : List Entry) → backward (e ∷ es) ≡ option_or (backward es) (one e)
  unfolding backward one
  backward-cons e es = ap (find (is_between low high)) (reverse-cons (bytes_of e) (map bytes_of es)) ∙ find-append (is_between low high) (reverse (map bytes_of es)) (bytes_of e ∷ [])

  one_none : (e : Entry) → is_between low high (bytes_of e) ≡ false → one e ≡ None
  unfolding one
  one_none e out = ap (λ b. cond b (Some (bytes_of e)) None) out

  backward_none : (es : List Entry) → NoneWithin low high es → backward es ≡ None
  unfolding backward
  backward_none [] none = refl
  backward_none (e ∷ es) none =
      backward-cons e es ∙ ap (λ o. option_or o (one e)) (backward_none es (λ k d in_range. none (suc k) d (omega arith))) ∙ one_none e (none 0 e (omega arith))

  -- if a key that comes before the upper bound is out of bounds, so are those before it
  below_out : (e f : Entry) → slice_cmp nat_cmp (bytes_of e) (bytes_of f) ≡ Less → is_before high f ≡ true → is_between low high (bytes_of f) ≡ false → is_between low high (bytes_of e) ≡ false
  below_out e f lt before out = false_from_ne_true _ (λ in_bounds.
      let from = at_most low (bytes_of e) (bytes_of f) (first _ _ in_bounds) lt in
      not_both _ (ap (λ a. a && is_lt (slice_cmp nat_cmp (bytes_of f) high)) from ∙ before) out)

  kept_by : (b : Bool) (e f : Entry) (es : List Entry) → is_between low high (bytes_of f) ≡ b → (b ≡ false → is_between low high (bytes_of e) ≡ false) → option_or (backward (f ∷ es)) (one e) ≡ backward (f ∷ es)
  unfolding one
  kept_by true e f es in_bounds out =
      let own : backward (f ∷ es) ≡ option_or (backward es) (Some (bytes_of f)) = backward-cons f es ∙ ap (λ b. option_or (backward es) (cond b (Some (bytes_of f)) None)) in_bounds in
      ap (λ o. option_or o (one e)) own ∙ absorbed (backward es) (bytes_of f) (one e) ∙ sym own
  kept_by false e f es in_bounds out = ap (option_or (backward (f ∷ es))) (one_none e (out refl)) ∙ or_none (backward (f ∷ es))

  last_of : List Entry → Option Entry
  last_of es = slice_get es (length es - 1)

  last_more : (e f : Entry) (es : List Entry) → last_of (e ∷ f ∷ es) ≡ last_of (f ∷ es)
  unfolding last_of
  last_more e f es = grind arith

  last_found : (es : List Entry) → Rise es → (i : ℕ) → IsPlaceOf es high i → backward es ≡ key_within low high (last_of (take i es))
  unfolding backward one last_of
  last_found [] rise zero place = refl
  last_found [] rise (suc i) place = refl
  last_found (e ∷ es) rise zero place = backward_none (e ∷ es) (λ k d in_range. and_no _ _ (place.1 k d (omega arith) in_range))
  last_found (e ∷ []) rise (suc zero) place = refl
  last_found (e ∷ []) rise (suc (suc i)) place = refl
  last_found (e ∷ f ∷ es) rise (suc zero) place =
      backward-cons e (f ∷ es) ∙ ap (λ o. option_or o (one e)) (backward_none (f ∷ es) (λ k d in_range. and_no _ _ (place.1 (suc k) d (omega arith) (omega arith))))
  last_found (e ∷ f ∷ es) rise (suc (suc i)) place =
      backward-cons e (f ∷ es)
      ∙ kept_by _ e f es refl (below_out e f (rise 0 1 e (omega arith) (omega arith)) (place.0 1 e (omega arith) (omega arith)))
      ∙ last_found (f ∷ es) (rest_rise e (f ∷ es) rise) (suc i) (λ k d from below. place.0 (suc k) d (omega arith) (omega arith), λ k d from below. place.1 (suc k) d (omega arith) (omega arith))
      ∙ ap (key_within low high) (sym (last_more e f (take i es)))

  pub previous_found : (es : List Entry) → AreEntries es → (i : ℕ) → IsPlaceOf es high i → key_within low high (slice_get (take i es) (length (take i es) - 1)) ≡ previous_key (held es) low high
  unfolding backward last_of
  previous_found es are i place = grind (arith, keys_held es are.sorted, last_found es (keys_rise es are) i place)
