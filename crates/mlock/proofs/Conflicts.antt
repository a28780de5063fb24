-- SPDX-License-Identifier: Apache-2.0
-- Whether a name conflicts with those that are held, by the holdings.
use Rattle.mlock.proofs.LockWords.{Entry, ◌≡◌, ◌<◌, ℕ, Bool, true, false, not, nat_eq, ◌||◌, List, [], ◌∷◌, map, length, Option, Some, None, ◌⊎◌, inl, inr}
use Rattle.mlock.proofs.LockWords.{refl, sym, ap, ◌∙◌, append-nil, subst, is_some, slice_get, true≢false, slice_get_within, get_or_from_slice_get}
use Rattle.mlock.proofs.LockWords.{slice_get-get_or, Any-from_list_any, list_any_at, and_parts, and_from, false_from_ne_true, or_right, or_cases, keys}
use Rattle.mlock.proofs.LockWords.{contains_key-keys, get-from_entries, is_some-find, list_any, eq_by_cmp, eq_by_cmp_equiv, both_ways, place_from_lookup}
use Rattle.mlock.proofs.LockWords.{lookup_from_place, IndexMap, IsUnique, LockName, Held, held, held_cmp, is_within, is_conflict, has_conflict, Locks}
use Rattle.mlock.proofs.LockWords.{held_cmp_total, lock_name_cmp_total, name_above, is_other, Holding, lock_of, locks_of, IsFree, name_eq, is_under, ◌&&◌}
use Rattle.mlock.proofs.LockWords.{nil_from_length, or_left}
use Rattle.std.specs.FinMap.{get}
use Rattle.indexmap.specs.IndexMap as index
use Rattle.std.proofs.Common.{arith}
use Rattle.mlock.proofs.Above.{above_within, above_or_same}
use Rattle.mlock.proofs.Levels.{absent_from}
use Rattle.mlock.proofs.Names.{at_test}
use Rattle.mlock.proofs.Steps.{same_lock, tied_itself}
use Rattle.mlock.proofs.Sums.{under_other}
use Rattle.mlock.proofs.Under.{both_within, is_same, of_inside}
use Rattle.mlock.proofs.Views.{no}

-- ---- names that conflict with none

fewer : {X : Type 0} (p q : X → Bool) (xs : List X) → ((x : X) → q x ≡ true → p x ≡ true) → list_any p xs ≡ false → list_any q xs ≡ false
fewer p q xs h none = false_from_ne_true (list_any q xs) (λ e.
    let (k, x, within, at, is) = Any-from_list_any q xs e in
    true≢false (sym (list_any_at p xs k x within (ap p at ∙ h x is)) ∙ none))

pub within_itself : (n : LockName) → is_within n n ≡ true
within_itself n = of_inside n n (record { kind = refl; account = refl; name = refl; more = []; subscripts = sym (append-nil n.node.subscripts) })

itself_conflicts : (t u : ℕ) (n : LockName) → (u ≡ t → ⊥) → is_conflict (held t n) (held u n) ≡ true
itself_conflicts t u n other = cc (no t u (λ e. other (sym e)), within_itself n)

-- a name that conflicts with none that is held is held by no other terminal
pub free_of : (l : Locks) (t : ℕ) (n : LockName) → has_conflict l (held t n) ≡ false → IsFree l t n
free_of l t n none u other =
    absent_from (get l (held u n)) (contains_key-keys l (held u n)
    ∙ fewer (is_conflict (held t n)) (eq_by_cmp held_cmp (held u n)) (keys l)
    (λ k e. ap (is_conflict (held t n)) (sym (same_lock (held u n) k e)) ∙ itself_conflicts t u n other) none)

-- ---- what is held, by the holdings

found_any : (p : Held → Bool) (ks : List Held) → list_any p ks ≡ true → (q : Held) × (p q ≡ true) × (list_any (eq_by_cmp held_cmp q) ks ≡ true)
found_any p ks e =
    let (k, q, within, at, is) = Any-from_list_any p ks e in
    (q, is, list_any_at (eq_by_cmp held_cmp q) ks k q within (ap (eq_by_cmp held_cmp q) at ∙ tied_itself q))

any_found : (p : Held → Bool) (q : Held) (ks : List Held) → p q ≡ true → list_any (eq_by_cmp held_cmp q) ks ≡ true → list_any p ks ≡ true
any_found p q ks is e =
    let (k, x, within, at, t) = Any-from_list_any (eq_by_cmp held_cmp q) ks e in
    list_any_at p ks k x within (ap p (at ∙ sym (same_lock q x t)) ∙ is)

pub any_lock : (p : Held → Bool) (es : List Entry) → list_any p (map (λ l. l.0) (map lock_of es)) ≡ list_any (λ e. p (held e.1.terminal e.0)) es
any_lock p [] = refl
any_lock p (e ∷ es) = ap (λ b. p (held e.1.terminal e.0) || b) (any_lock p es)

-- a conflict with what is held is one with a holding
pub conflict_is : {S : Type 0} (m : IndexMap LockName Holding S) (h : Held) → has_conflict (locks_of m) h ≡ list_any (λ e. is_conflict h (held e.1.terminal e.0)) m.entries
conflict_is m h =
    both_ways (list_any (is_conflict h) (keys (locks_of m))) (list_any (is_conflict h) names)
    (λ e. let f = found_any (is_conflict h) (keys (locks_of m)) e in any_found (is_conflict h) f.0 names f.1 (sym (alike f.0) ∙ f.2))
    (λ e. let f = found_any (is_conflict h) names e in any_found (is_conflict h) f.0 (keys (locks_of m)) f.1 (alike f.0 ∙ f.2))
    ∙ any_lock (is_conflict h) m.entries
  where
    names : List Held
    names = map (λ l. l.0) (map lock_of m.entries)

    alike : (q : Held) → list_any (eq_by_cmp held_cmp q) (keys (locks_of m)) ≡ list_any (eq_by_cmp held_cmp q) names
    alike q =
        sym (contains_key-keys (locks_of m) q) ∙ ap is_some (get-from_entries held_cmp_total (map lock_of m.entries) q)
        ∙ is_some-find held_cmp q (map lock_of m.entries)

any_at : {X : Type 0} (p : X → Bool) (xs : List X) (i : ℕ) (x : X) → slice_get xs i ≡ Some x → p x ≡ true → list_any p xs ≡ true
any_at p xs i x at is = list_any_at p xs i x (slice_get_within xs i x at) (ap p (get_or_from_slice_get xs i x x at) ∙ is)

at_any : {X : Type 0} (p : X → Bool) (xs : List X) → list_any p xs ≡ true → (i : ℕ) × (x : X) × (slice_get xs i ≡ Some x) × (p x ≡ true)
at_any p xs e = let (k, x, within, at, is) = Any-from_list_any p xs e in (k, x, slice_get-get_or xs k x within ∙ ap Some at, is)

module _ {S : Type 0} (m : IndexMap LockName Holding S) (n : LockName) (t : ℕ) where
  abbrev conflicts_with : Entry → Bool
  conflicts_with e = is_conflict (held t n) (held e.1.terminal e.0)

  -- one that is below the name conflicts
  pub by_below : list_any (under_other n t) m.entries ≡ true → has_conflict (locks_of m) (held t n) ≡ true
  by_below e = grind (arith, at_any, and_parts, conflict_is, any_at)

  -- and so does the name itself, or one above it
  pub by_name : (a : LockName) → is_within a n ≡ true → is_other t (index.get name_eq m a) ≡ true → has_conflict (locks_of m) (held t n) ≡ true
  by_name a above e = by_holding (index.get name_eq m a) refl e
    where
      by_holding : (o : Option Holding) → index.get name_eq m a ≡ o → is_other t o ≡ true → has_conflict (locks_of m) (held t n) ≡ true
      by_holding None is e = absurd (cc)
      by_holding (Some h) is e =
          let place = place_from_lookup (name_eq a) m.entries h is in
          let same : a ≡ place.1 = is_same a place.1 place.3 in
          conflict_is m (held t n)
          ∙ any_at conflicts_with m.entries place.0 (place.1, h) place.2
          (and_from (not (nat_eq t h.terminal)) (is_within n place.1 || is_within place.1 n) e
          (or_right (is_within n place.1) (is_within place.1 n) (subst (λ k. is_within k n ≡ true) same above)))

  pub by_above : (i : ℕ) → is_other t (index.get name_eq m (name_above i n)) ≡ true → has_conflict (locks_of m) (held t n) ≡ true
  by_above i = by_name (name_above i n) (above_within i n)

  pub by_itself : is_other t (index.get name_eq m n) ≡ true → has_conflict (locks_of m) (held t n) ≡ true
  by_itself = by_name n (within_itself n)

  -- if no name is held, none conflicts
  pub by_no_name : length m.entries ≡ 0 → has_conflict (locks_of m) (held t n) ≡ false
  by_no_name none = conflict_is m (held t n) ∙ ap (list_any conflicts_with) (nil_from_length m.entries none)

  -- if none of these is another's, none conflicts
  pub by_none : IsUnique name_eq m → list_any (under_other n t) m.entries ≡ false → is_other t (index.get name_eq m n) ≡ false
      → ((i : ℕ) → i < length n.node.subscripts → is_other t (index.get name_eq m (name_above i n)) ≡ false) → has_conflict (locks_of m) (held t n) ≡ false
  by_none unique below itself above = conflict_is m (held t n) ∙ false_from_ne_true (list_any conflicts_with m.entries) refuted
    where
      held_there : (i : ℕ) (e : Entry) → slice_get m.entries i ≡ Some e → not (nat_eq t e.1.terminal) ≡ true → is_other t (index.get name_eq m e.0) ≡ true
      held_there i e at other = ap (is_other t) (lookup_from_place (eq_by_cmp_equiv lock_name_cmp_total) m.entries i e.0 e.1 unique at) ∙ other

      refuted_above : (i : ℕ) (e : Entry) → slice_get m.entries i ≡ Some e → not (nat_eq t e.1.terminal) ≡ true → is_within e.0 n ≡ true → ⊥
      refuted_above i e at other is = by_side (above_or_same e.0 n is)
        where
          by_side : (is_within n e.0 ≡ true) ⊎ ((j : ℕ) × (j < length n.node.subscripts) × (name_above j n ≡ e.0)) → ⊥
          by_side (inl back) = true≢false (sym (ap (λ k. is_other t (index.get name_eq m k)) (both_within n e.0 back is) ∙ held_there i e at other) ∙ itself)
          by_side (inr found) =
              true≢false (sym (ap (λ k. is_other t (index.get name_eq m k)) found.2 ∙ held_there i e at other) ∙ above found.0 found.1)

      refuted : list_any conflicts_with m.entries ≡ true → ⊥
      refuted e =
          let f = at_any conflicts_with m.entries e in
          let is = and_parts (not (nat_eq t f.1.1.terminal)) (is_within n f.1.0 || is_within f.1.0 n) f.3 in
          by_side f.0 f.1 f.2 is.0 (or_cases (is_within n f.1.0) (is_within f.1.0 n) is.1)
        where
          by_side : (i : ℕ) (d : Entry) → slice_get m.entries i ≡ Some d → not (nat_eq t d.1.terminal) ≡ true → (is_within n d.0 ≡ true) ⊎ (is_within d.0 n ≡ true) → ⊥
          by_side i d at other (inl is) =
              at_test (is_within d.0 n) (λ b. ⊥) (λ back. refuted_above i d at other back)
              (λ back. true≢false (sym (any_at (under_other n t) m.entries i d at (and_from (is_under n d.0) (not (nat_eq t d.1.terminal)) (and_from (is_within n d.0) (not (is_within d.0 n)) is (ap not back)) other)) ∙ below))
          by_side i d at other (inr is) = refuted_above i d at other is
