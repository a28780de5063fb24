-- SPDX-License-Identifier: Apache-2.0
-- What a cut keeps of a map, whatever was done to it before.
use Rattle.misolation.proofs.IsolationWords.{◌≡◌, Bool, true, false, cond, List, [], ◌∷◌, Option, Some, None, map, refl, sym, ap, ◌∙◌, filter, list_any}
use Rattle.misolation.proofs.IsolationWords.{eq_by_cmp, by_test, Ordering, IsTotalOrder, FinMap, get, insert, remove, retain_keys, entries, keys}
use Rattle.misolation.proofs.IsolationWords.{entries_sorted, from_sorted, entries-from_sorted, get-from_sorted, get-entries, get-insert, get-remove, same_map}
use Rattle.misolation.proofs.IsolationWords.{IsAntisymmetric, where_key, is_sorted-where_key, find-where_key, equal_of, get_cut}
use Rattle.std.specs.declared.cmp.Ordering.TheVariants.{Equal}

-- ---- lists

-- what a test finds anyway
pub filter_absorbed : {X : Type 0} (p q : X → Bool) → ((x : X) → p x ≡ true → q x ≡ true) → (xs : List X) → filter p (filter q xs) ≡ filter p xs
filter_absorbed p q h [] = refl
filter_absorbed p q h (x ∷ xs) =
    let rest = filter_absorbed p q h xs in
    by_test (p x)
    (λ e. simp (h x e, e) (ap (λ r. x ∷ r) rest))
    (λ e. by_test (q x) (λ f. simp (f, e) rest) (λ f. simp (f, e) rest))

-- and what the passing elements that a test finds have
pub any_absorbed : {X : Type 0} (c p q : X → Bool) → ((x : X) → q x ≡ true → c x ≡ true → p x ≡ true) → (xs : List X) → list_any c (filter p (filter q xs)) ≡ list_any c (filter q xs)
any_absorbed c p q h [] = refl
any_absorbed c p q h (x ∷ xs) =
    let rest = any_absorbed c p q h xs in
    by_test (q x)
    (λ e. by_test (c x)
    (λ f. simp (h x e f, e, f) refl)
    (λ f. by_test (p x) (λ g. simp (g, e, f) rest) (λ g. simp (g, e, f) rest)))
    (λ e. simp e rest)

pub map_filter : {X Y : Type 0} (f : X → Y) (p : Y → Bool) (xs : List X) → map f (filter (λ x. p (f x)) xs) ≡ filter p (map f xs)
map_filter f p [] = refl
map_filter f p (x ∷ xs) = by_test (p (f x)) (λ e. simp e (ap (λ r. f x ∷ r) (map_filter f p xs))) (λ e. simp e (map_filter f p xs))

-- ---- maps

module _ {K : Type 0} {R : K → K → Ordering} (exact : IsAntisymmetric R) where
  alike : (p : K → Bool) (q x : K) → R q x ≡ Equal → p x ≡ p q
  alike p q x e = ap p (sym (exact q x e))

  pub tied_true : (p : K → Bool) (k q : K) → p k ≡ true → eq_by_cmp R q k ≡ true → p q ≡ true
  tied_true p k q h e = ap p (exact q k (equal_of (R q k) e)) ∙ h

module _ {K X : Type 0} {R : K → K → Ordering} (total : IsTotalOrder R) (exact : IsAntisymmetric R) where
  pub get_kept : (m : FinMap R X) (p : K → Bool) (q : K) → p q ≡ true → get (retain_keys m p) q ≡ get m q
  get_kept m p q h = get_cut total exact m p q ∙ ap (λ b. cond b (get m q) None) h

  -- what a cut has it keeps of the map
  pub had : (m : FinMap R X) (p : K → Bool) (q : K) (v : X) → get (retain_keys m p) q ≡ Some v → (p q ≡ true) × (get m q ≡ Some v)
  had m p q v e = by_test (p q)
      (λ y. (y, sym (get_kept m p q y) ∙ e))
      (λ n. let none : None ≡ Some v = sym (get_cut total exact m p q ∙ ap (λ b. cond b (get m q) None) n) ∙ e in absurd (cc))

  -- the order of two cuts does not count
  both_cuts : (a b : Bool) (v : Option X) → cond a (cond b v None) None ≡ cond b (cond a v None) None
  both_cuts true true v = refl
  both_cuts true false v = refl
  both_cuts false true v = refl
  both_cuts false false v = refl

  pub cut_cut : (m : FinMap R X) (p q : K → Bool) → retain_keys (retain_keys m p) q ≡ retain_keys (retain_keys m q) p
  cut_cut m p q = same_map total exact _ _ (λ k.
      get_cut total exact (retain_keys m p) q k ∙ ap (λ v. cond (q k) v None) (get_cut total exact m p k) ∙ both_cuts (q k) (p k) (get m k)
      ∙ sym (get_cut total exact (retain_keys m q) p k ∙ ap (λ v. cond (p k) v None) (get_cut total exact m q k)))

  -- a cut by what the other keeps anyway
  absorbed : (a b : Bool) (v : Option X) → (b ≡ true → a ≡ true) → cond b (cond a v None) None ≡ cond b v None
  absorbed true b v h = refl
  absorbed false true v h = let e : false ≡ true = h refl in cc
  absorbed false false v h = refl

  pub cut_absorbs : (m : FinMap R X) (p q : K → Bool) → ((k : K) → q k ≡ true → p k ≡ true) → retain_keys (retain_keys m p) q ≡ retain_keys m q
  cut_absorbs m p q h = same_map total exact _ _ (λ k.
      get_cut total exact (retain_keys m p) q k ∙ ap (λ v. cond (q k) v None) (get_cut total exact m p k) ∙ absorbed (p k) (q k) (get m k) (h k)
      ∙ sym (get_cut total exact m q k))

  insert_in : (b t : Bool) (v : X) (g : Option X) → (t ≡ true → b ≡ true) → cond b (cond t (Some v) g) None ≡ cond t (Some v) (cond b g None)
  insert_in true t v g h = refl
  insert_in false true v g h = let e : false ≡ true = h refl in cc
  insert_in false false v g h = refl

  -- what is put at a key that the cut keeps is put into the cut
  pub cut_insert : (m : FinMap R X) (p : K → Bool) (k : K) (v : X) → p k ≡ true → retain_keys (insert m k v) p ≡ insert (retain_keys m p) k v
  cut_insert m p k v h = same_map total exact _ _ (λ q.
      get_cut total exact (insert m k v) p q ∙ ap (λ g. cond (p q) g None) (get-insert total m k v q)
      ∙ insert_in (p q) (eq_by_cmp R q k) v (get m q) (tied_true exact p k q h)
      ∙ sym (get-insert total (retain_keys m p) k v q ∙ ap (λ g. cond (eq_by_cmp R q k) (Some v) g) (get_cut total exact m p q)))

  remove_in : (b t : Bool) (g : Option X) → cond b (cond t None g) None ≡ cond t None (cond b g None)
  remove_in true t g = refl
  remove_in false true g = refl
  remove_in false false g = refl

  pub cut_remove : (m : FinMap R X) (p : K → Bool) (k : K) → retain_keys (remove m k) p ≡ remove (retain_keys m p) k
  cut_remove m p k = same_map total exact _ _ (λ q.
      get_cut total exact (remove m k) p q ∙ ap (λ g. cond (p q) g None) (get-remove total m k q) ∙ remove_in (p q) (eq_by_cmp R q k) (get m q)
      ∙ sym (get-remove total (retain_keys m p) k q ∙ ap (λ g. cond (eq_by_cmp R q k) None g) (get_cut total exact m p q)))

  pub entries_cut : (m : FinMap R X) (p : K → Bool) → entries (retain_keys m p) ≡ where_key R p (entries m)
  entries_cut m p =
      let s = is_sorted-where_key R p (entries m) (entries_sorted m) in
      ap entries (same_map total exact (retain_keys m p) (from_sorted (where_key R p (entries m))) (λ q.
      get_cut total exact m p q ∙ ap (λ g. cond (p q) g None) (get-entries m q) ∙ sym (find-where_key R p q (alike exact p q) (entries m))
      ∙ sym (get-from_sorted R (where_key R p (entries m)) q s)))
      ∙ entries-from_sorted R (where_key R p (entries m)) s

  pub keys_cut : (m : FinMap R X) (p : K → Bool) → keys (retain_keys m p) ≡ filter p (keys m)
  keys_cut m p = ap (map (λ e. e.0)) (entries_cut m p) ∙ map_filter (λ e. e.0) p (entries m)

  -- a map of which all keys pass a test is its own cut
  pub own_cut : (m : FinMap R X) (p : K → Bool) → ((k : K) (v : X) → get m k ≡ Some v → p k ≡ true) → retain_keys m p ≡ m
  own_cut m p h = same_map total exact _ _ (λ q. get_cut total exact m p q ∙ kept (get m q) (p q) (h q))
    where
      kept : (o : Option X) (b : Bool) → ((v : X) → o ≡ Some v → b ≡ true) → cond b o None ≡ o
      kept None true h = refl
      kept None false h = refl
      kept (Some v) b h = ap (λ c. cond c (Some v) None) (h v refl)
