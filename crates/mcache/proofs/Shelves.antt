-- SPDX-License-Identifier: Apache-2.0
-- What the calls of a map leave of its entries.
use Rattle.mcache.proofs.CacheWords.{◌≡◌, ◌≤◌, ◌+◌, ◌-◌, ◌⊎◌, ℕ, suc, Bool, true, false, List, [], ◌∷◌, length, take, Option, Some, None, Vec, Contains, Result}
use Rattle.mcache.proofs.CacheWords.{Ok, Err, MatchResult, OnOk, OnErr, IfSome, nat_eq, refl, sym, ap, ◌∙◌, subst, inl, inr, arith, length-take, slice_get}
use Rattle.mcache.proofs.CacheWords.{slice_get_within, get_or_from_slice_get, Contains-get_or, Global, pointwise, same_text, lookup, lookup_entry, remove_entry}
use Rattle.mcache.proofs.CacheWords.{result_ok, LruCache, promoted, put_entries, Contains-lookup, Contains-promoted, Contains-put_entries, Text, IsOf, IsKept}
use Rattle.mcache.proofs.CacheWords.{IsWithin, IsWithinOr, Entry}
use Rattle.std.specs.Option.{option_map_or}
use Rattle.std.specs.declared.rc.Rc.{Rc}
use Rattle.mcache.specs.Kept.{Entry}

-- ---- lengths

module _ {K V : Type 0} (test : K → Bool) where
  removed : (es : List (K × V)) (e : K × V) → lookup_entry test es ≡ Some e → suc (length (remove_entry test es)) ≡ length es
  removed [] e h = cc
  removed (f ∷ es) e h = (elim (test f.0) as (λ y. test f.0 ≡ y → suc (length (remove_entry test (f ∷ es))) ≡ suc (length es)) [
    | true ↦ λ t. rw t refl
    | false ↦ λ t. let h' = rw t at h in rw t (ap suc (removed es e h'))
  ]) refl

  promoted_by : (es : List (K × V)) (o : Option (K × V)) → lookup_entry test es ≡ o → length (option_map_or (λ e. e ∷ remove_entry test es) o es) ≡ length es
  promoted_by es None h = refl
  promoted_by es (Some e) h = removed es e h

  pub length_promoted : (es : List (K × V)) → length (promoted test es) ≡ length es
  length_promoted es = promoted_by es (lookup_entry test es) refl

shorter : {X : Type 0} (n : ℕ) (xs : List X) → length (take n xs) ≤ length xs
shorter n xs = omega (arith, length-take n xs)

module _ {K V : Type 0} (eq : K → K → Bool) (c : LruCache K V) (k : K) (v : V) where
  put_by : (o : Option (K × V)) → lookup_entry (eq k) c.entries ≡ o → length (option_map_or (λ e. (e.0, v) ∷ remove_entry (eq k) c.entries) o ((k, v) ∷ take (c.cap - 1) c.entries)) ≤ length c.entries + 1
  put_by None h = omega (arith, shorter (c.cap - 1) c.entries)
  put_by (Some e) h = omega (arith, removed (eq k) c.entries e h)

  pub length_put : length (put_entries eq c k v) ≤ length c.entries + 1
  length_put = put_by (lookup_entry (eq k) c.entries) refl

-- ---- entries

module _ {T : Type 0} where
  -- what is found by a text is of that text
  kept_at : (es : List (Entry T)) (text : Text) (tree : Rc T Global) → lookup (λ k. pointwise nat_eq text k.items) es ≡ Some tree → IsKept es text tree.value
  kept_at es text tree h =
      let at = Contains-lookup (λ k. pointwise nat_eq text k.items) es tree h in
      ((at.0, tree), at.1, (sym (same_text text at.0.items (sym at.2)), refl))

  held_again : {E : Type 0} (es : List (Entry T)) (text : Text) (tree : Rc T Global) (r : Result (Rc T Global) E) (o : Option (Rc T Global)) → MatchResult r (λ copy. copy.value ≡ tree.value) (λ _. ⊥ → ⊥) → o ≡ result_ok r → IsKept es text tree.value → IfSome o (λ t. IsKept es text t.value)
  held_again es text tree (Err e) o same is h = rw is tt
  held_again es text tree (Ok copy) o same is h = rw is (subst (IsKept es text) (sym same) h)

  pub found : {E : Type 0} (es : List (Entry T)) (text : Text) (tree : Rc T Global) (r : Result (Rc T Global) E) (o : Option (Rc T Global)) → Some tree ≡ lookup (λ k. pointwise nat_eq text k.items) es → MatchResult r (λ copy. copy.value ≡ tree.value) (λ _. ⊥ → ⊥) → o ≡ result_ok r → IfSome o (λ t. IsKept es text t.value)
  found es text tree r o at same is = held_again es text tree r o same is (kept_at es text tree (sym at))

  -- so is what is first under that text
  first_at : (es : List (Entry T)) (e : Entry T) → slice_get es 0 ≡ Some e → Contains es e
  first_at es e at = subst (Contains es) (get_or_from_slice_get es 0 e e at) (Contains-get_or es 0 e (slice_get_within es 0 e at))

  pub found_first : {E : Type 0} (es : List (Entry T)) (text : Text) (key : Vec ℕ Global) (tree : Rc T Global) (r : Result (Rc T Global) E) (o : Option (Rc T Global)) → slice_get es 0 ≡ Some (key, tree) → key.items ≡ text → MatchResult r (λ copy. copy.value ≡ tree.value) (λ _. ⊥ → ⊥) → o ≡ result_ok r → IfSome o (λ t. IsKept es text t.value)
  found_first es text key tree r o at is same ok = held_again es text tree r o same ok ((key, tree), first_at es (key, tree) at, (is, refl))

  -- a look-up changes the order alone
  pub looked_within : (es : List (Entry T)) (test : Vec ℕ Global → Bool) (after : List (Entry T)) → after ≡ promoted test es → IsWithin after es
  looked_within es test after is e c = Contains-promoted test es e (subst (λ l. Contains l e) is c)

  pub looked_count : (es : List (Entry T)) (test : Vec ℕ Global → Bool) (after : List (Entry T)) → after ≡ promoted test es → length after ≤ length es
  looked_count es test after is = rw is (omega (arith, length_promoted test es))

  -- what is put is of the text
  is_put : (text : Text) (tree : T) (key : Vec ℕ Global) (held : Rc T Global) (e : Entry T) → key.items ≡ text → held.value ≡ tree → (e.1 ≡ held) → (e.0 ≡ key) ⊎ (pointwise nat_eq key.items e.0.items ≡ true) → IsOf text tree e
  is_put text tree key held e k h v (inl same) = (ap (λ x. x.items) same ∙ k, ap (λ x. x.value) v ∙ h)
  is_put text tree key held e k h v (inr equal) = (sym (same_text key.items e.0.items (sym equal)) ∙ k, ap (λ x. x.value) v ∙ h)

  pub put_within : (c : LruCache (Vec ℕ Global) (Rc T Global)) (text : Text) (tree : T) (key : Vec ℕ Global) (held : Rc T Global) → key.items ≡ text → held.value ≡ tree → IsWithinOr (put_entries (λ x y. pointwise nat_eq x.items y.items) c key held) c.entries text tree
  put_within c text tree key held k h e at = elim (Contains-put_entries (λ x y. pointwise nat_eq x.items y.items) c key held e at) [
    | inl old ↦ inl old
    | inr p ↦ inr (is_put text tree key held e k h p.0 (elim p.1 [
      | inl same ↦ inl same
      | inr other ↦ inr other.2
    ]))
  ]

-- whether it was put or found no memory
pub either : {A E P Q R : Type 0} (r : Result A E) → OnOk r P → OnErr r Q → (P → R) → (Q → R) → R
either (Ok a) p q f g = f p
either (Err e) p q f g = g q
