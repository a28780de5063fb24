-- SPDX-License-Identifier: Apache-2.0
-- What the moves of the holdings keep, and what they do to the locks.
use Rattle.mlock.proofs.LockWords.{Entry, ◌≡◌, ◌<◌, ◌+◌, ◌-◌, ◌^◌, ℕ, true, false, cond, nat_eq, List, [], ◌∷◌, ◌++◌, Some, None, length, get_or, ◌⊎◌, refl}
use Rattle.mlock.proofs.LockWords.{sym, ap, ◌∙◌, subst, arith, slice_get, get_or-take, get_or-set_other, insert, remove, eq_by_cmp_equiv, swap_remove}
use Rattle.mlock.proofs.LockWords.{IsDistinct, keys_of, cases_eq, lookup_from_place, slice_get_within, slice_get-get_or, get_or_from_slice_get, IndexMap}
use Rattle.mlock.proofs.LockWords.{IsUnique, Updates, with_value_at, keys-with_value_at, updates-with_value_at, LockName, Locks, held, one_more, released}
use Rattle.mlock.proofs.LockWords.{lock_name_cmp_total, Holding, Tally, locks_of, name_eq, is_under, with_one, tally_at, tally_of, too_large, HasRoom, Kept}
use Rattle.mlock.proofs.LockWords.{IsRecounted, common_steps}
use Rattle.indexmap.specs.IndexMap as index
use Rattle.mlock.proofs.Levels.{rest_is}
use Rattle.mlock.proofs.Steps.{count_none}
use Rattle.mlock.proofs.Sums.{pushed, pushed_small, swapped, swapped_small, rewritten_same, rewritten_small, has_room}
use Rattle.mlock.proofs.Views.{IsOwn, inserted, removed, released_after}

module _ {S R : Type 0} where
  -- ---- a name that is held

  pub room_of : (h : IndexMap LockName Holding S) (b c : IndexMap LockName Tally R) → Kept h b → length h.entries < 2 ^ 63 → ((n : LockName) → tally_at c n ≡ tally_at b n) → (n : LockName) → HasRoom (tally_at c n)
  room_of h b c kept short same n = subst HasRoom (sym (same n ∙ kept.tied n)) (has_room h.entries n kept.small short)

  pub kept_held : (h g : IndexMap LockName Holding S) (b c d : IndexMap LockName Tally R) (name : LockName) (w : Holding) → Kept h b → w.terminal < 2 ^ 32
      → g.entries ≡ h.entries ++ (name, w) ∷ [] → IsUnique name_eq g → ((n : LockName) → tally_at c n ≡ tally_at b n)
      → ((n : LockName) → tally_at d n ≡ cond (is_under n name) (with_one w.terminal (tally_at c n)) (tally_at c n)) → Kept g d
  kept_held h g b c d name w kept small entries unique same counted =
      record {
        unique = unique;
        small = ap too_large entries ∙ pushed_small h.entries (name, w) kept.small small;
        tied = λ n.
            counted n ∙ ap (λ a. cond (is_under n name) (with_one w.terminal a) a) (same n ∙ kept.tied n)
            ∙ sym (ap (λ es. tally_of es n) entries ∙ pushed h.entries (name, w) n);
      }

  pub kept_same : (h g : IndexMap LockName Holding S) (b c : IndexMap LockName Tally R) → Kept h b → g.entries ≡ h.entries → ((n : LockName) → tally_at c n ≡ tally_at b n) → Kept g c
  kept_same h g b c kept entries same =
      record {
        unique = subst (λ es. IsDistinct name_eq (keys_of es)) (sym entries) kept.unique;
        small = ap too_large entries ∙ kept.small;
        tied = λ n. same n ∙ kept.tied n ∙ sym (ap (λ es. tally_of es n) entries);
      }

  -- ---- a name that is held no more

  pub one_there : (h : IndexMap LockName Holding S) (b : IndexMap LockName Tally R) (i : ℕ) (e : Entry) → Kept h b → slice_get h.entries i ≡ Some e
      → (n : LockName) → is_under n e.0 ≡ true → (rest : Tally) × (with_one e.1.terminal rest ≡ tally_at b n)
  one_there h b i e kept at n is =
      (tally_of (swap_remove h.entries i e) n, sym (kept.tied n ∙ swapped h.entries i e n at ∙ ap (λ u. cond u (with_one e.1.terminal (tally_of (swap_remove h.entries i e) n)) (tally_of (swap_remove h.entries i e) n)) is))

  pub kept_gone : (h g : IndexMap LockName Holding S) (b c : IndexMap LockName Tally R) (i : ℕ) (e : Entry) → Kept h b → slice_get h.entries i ≡ Some e
      → g.entries ≡ swap_remove h.entries i e → IsUnique name_eq g
      → ((n : LockName) → tally_at b n ≡ cond (is_under n e.0) (with_one e.1.terminal (tally_at c n)) (tally_at c n)) → Kept g c
  kept_gone h g b c i e kept at entries unique off =
      record {
        unique = unique;
        small = ap too_large entries ∙ swapped_small h.entries i e at kept.small;
        tied = λ n.
            rest_is (is_under n e.0) e.1.terminal (tally_at c n) (tally_of (swap_remove h.entries i e) n) (sym (off n) ∙ kept.tied n ∙ swapped h.entries i e n at)
            ∙ sym (ap (λ es. tally_of es n) entries);
      }

  -- ---- a count that changes

  pub kept_recounted : (h g : IndexMap LockName Holding S) (b : IndexMap LockName Tally R) → Kept h b → IsRecounted h g → Kept g b
  kept_recounted h g b kept same = record { unique = same.unique; small = same.small ∙ kept.small; tied = λ n. kept.tied n ∙ sym (same.same n) }

module _ {S : Type 0} (h : IndexMap LockName Holding S) (i : ℕ) (n : LockName) (v : Holding) (unique : IsUnique name_eq h) (at : slice_get h.entries i ≡ Some (n, v)) where
  pub there : index.get name_eq h n ≡ Some v
  there = lookup_from_place (eq_by_cmp_equiv lock_name_cmp_total) h.entries i n v unique at

  own_there : (w : Holding) → v.terminal ≡ w.terminal → IsOwn w.terminal (index.get name_eq h n)
  own_there w own = subst (IsOwn w.terminal) (sym there) own

  pub recounted : (w : Holding) → v.terminal ≡ w.terminal → IsRecounted h (with_value_at h i w)
  recounted w own =
      record {
        unique = subst (IsDistinct name_eq) (sym (keys-with_value_at h i w)) unique;
        small = rewritten_small h.entries i n v w at (sym own);
        same = rewritten_same h.entries i n v w at (sym own);
      }

  pub recounted_locks : (w : Holding) → v.terminal ≡ w.terminal → locks_of (with_value_at h i w) ≡ insert (locks_of h) (held w.terminal n) w.count
  recounted_locks w own =
      inserted h (with_value_at h i w) n w.terminal (Some w) unique (recounted w own).unique (own_there w own) refl
      (updates-with_value_at h i w (eq_by_cmp_equiv lock_name_cmp_total) unique n v at) w refl

  pub gone_locks : (g : IndexMap LockName Holding S) → IsUnique name_eq g → Updates name_eq h g n None → locks_of g ≡ remove (locks_of h) (held v.terminal n)
  gone_locks g unique' u = removed h g n v.terminal None unique unique' (own_there v refl) tt u refl

pub held_locks : {S : Type 0} (h g : IndexMap LockName Holding S) (n : LockName) (w : Holding) → IsUnique name_eq h → IsUnique name_eq g → index.get name_eq h n ≡ None → w.count ≡ 1
    → Updates name_eq h g n (Some w) → locks_of g ≡ one_more (locks_of h) (held w.terminal n)
held_locks h g n w unique unique' none one u =
    inserted h g n w.terminal (Some w) unique unique' (subst (IsOwn w.terminal) (sym none) tt) refl u w refl
    ∙ ap (insert (locks_of h) (held w.terminal n)) (one ∙ ap (λ c. c + 1) (sym (count_none h unique n w.terminal (sym none))))

-- ---- all of a terminal

-- none of the first `i` entries is the terminal's
abbrev pub NoneBefore : ℕ → ℕ → List Entry → Type 0
NoneBefore t i es = (j : ℕ) (e : Entry) → j < i → slice_get es j ≡ Some e → nat_eq e.1.terminal t ≡ false

-- what is at a place within
pub place : (es : List Entry) (i : ℕ) → i < length es → (e : Entry) × (slice_get es i ≡ Some e)
place [] i inside = absurd (omega (arith, inside))
place (d ∷ es) i inside = (get_or (d ∷ es) i d, slice_get-get_or (d ∷ es) i d inside)

pub swap_length : (es fs : List Entry) (i : ℕ) (d : Entry) → i < length es → fs ≡ swap_remove es i d → length fs + 1 ≡ length es
swap_length es fs i d inside is = grind (arith, common_steps)

-- what is before the place that is taken out stays there
swap_before : (es : List Entry) (i j : ℕ) (d e : Entry) → j < i → i < length es → slice_get (swap_remove es i d) j ≡ Some e → slice_get es j ≡ Some e
swap_before es i j d e before inside at =
    let short : j < length (swap_remove es i d) = slice_get_within (swap_remove es i d) j e at in
    let here : get_or (swap_remove es i d) j e ≡ e = get_or_from_slice_get (swap_remove es i d) j e e at in
    let kept : get_or (swap_remove es i d) j e ≡ get_or es j e =
    get_or-take (length es - 1) _ j e (omega (arith, before, inside)) ∙ get_or-set_other es i j _ e (λ same. absurd (omega (arith, same, before))) in
    slice_get-get_or es j e (omega (arith, before, inside)) ∙ ap Some (sym kept ∙ here)

pub none_swapped : (t : ℕ) (es fs : List Entry) (i : ℕ) (d : Entry) → i < length es → fs ≡ swap_remove es i d → NoneBefore t i es → NoneBefore t i fs
none_swapped t es fs i d inside is none j e before at = none j e before (swap_before es i j d e before inside (subst (λ l. slice_get l j ≡ Some e) is at))

pub none_more : (t : ℕ) (es : List Entry) (i : ℕ) → ((e : Entry) → slice_get es i ≡ Some e → nat_eq e.1.terminal t ≡ false) → NoneBefore t i es → NoneBefore t (i + 1) es
none_more t es i here none j e before at = by_place (cases_eq j i)
  where
    by_place : (j ≡ i) ⊎ (j ≡ i → ⊥) → nat_eq e.1.terminal t ≡ false
    by_place h = grind arith

pub one_released : (l m k : Locks) (t : ℕ) (n : LockName) → m ≡ remove l (held t n) → released l t ≡ k → released m t ≡ k
one_released l m k t n is rest = ap (λ x. released x t) is ∙ released_after l t n ∙ rest
