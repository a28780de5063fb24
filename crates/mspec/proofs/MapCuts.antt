-- SPDX-License-Identifier: Apache-2.0
-- Maps cut by a test of their keys.
use Rattle.mspec.proofs.SpecWords.{◌≡◌, Bool, true, false, cond, Option, Some, None, refl, sym, ap, ◌∙◌, Ordering, Less, Equal, Greater, eq_by_cmp, is_eq}
use Rattle.mspec.proofs.SpecWords.{IsTotalOrder, FinMap, get, insert, remove, retain_keys, get-insert, get-remove, get-retain_keys, same_map, IsAntisymmetric}

pub equal_of : (o : Ordering) → is_eq o ≡ true → o ≡ Equal
equal_of Less e = absurd (cc)
equal_of Equal e = refl
equal_of Greater e = absurd (cc)

tied : {K : Type 0} {R : K → K → Ordering} → IsAntisymmetric R → (p : K → Bool) (k q : K) → p k ≡ false → eq_by_cmp R q k ≡ true → p q ≡ false
tied {R = R} exact p k q h e = ap p (exact q k (equal_of (R q k) e)) ∙ h

module _ {K X : Type 0} {R : K → K → Ordering} (total : IsTotalOrder R) (exact : IsAntisymmetric R) where
  pub get_cut : (m : FinMap R X) (p : K → Bool) (q : K) → get (retain_keys m p) q ≡ cond (p q) (get m q) None
  get_cut m p q = get-retain_keys m p q (λ x e. ap p (sym (exact q x e)))

  other : (b t : Bool) (v g : Option X) → (t ≡ true → b ≡ false) → cond b (cond t v g) None ≡ cond b g None
  other true true v g h = let no : true ≡ false = h refl in cc
  other true false v g h = refl
  other false t v g h = refl

  -- what a cut leaves out is put and taken away unseen
  pub cut_drops : (m : FinMap R X) (p : K → Bool) (k : K) (v : X) → p k ≡ false → retain_keys (insert m k v) p ≡ retain_keys m p
  cut_drops m p k v h = same_map total exact _ _ (λ q.
      get_cut (insert m k v) p q ∙ ap (λ g. cond (p q) g None) (get-insert total m k v q) ∙ other (p q) (eq_by_cmp R q k) (Some v) (get m q) (tied exact p k q h)
      ∙ sym (get_cut m p q))

  pub cut_removed : (m : FinMap R X) (p : K → Bool) (k : K) → p k ≡ false → retain_keys (remove m k) p ≡ retain_keys m p
  cut_removed m p k h = same_map total exact _ _ (λ q.
      get_cut (remove m k) p q ∙ ap (λ g. cond (p q) g None) (get-remove total m k q) ∙ other (p q) (eq_by_cmp R q k) None (get m q) (tied exact p k q h)
      ∙ sym (get_cut m p q))

  twice : (b : Bool) (v : Option X) → cond b (cond b v None) None ≡ cond b v None
  twice true v = refl
  twice false v = refl

  pub cut_twice : (m : FinMap R X) (p : K → Bool) → retain_keys (retain_keys m p) p ≡ retain_keys m p
  cut_twice m p = same_map total exact _ _ (λ q.
      get_cut (retain_keys m p) p q ∙ ap (λ g. cond (p q) g None) (get_cut m p q) ∙ twice (p q) (get m q) ∙ sym (get_cut m p q))
