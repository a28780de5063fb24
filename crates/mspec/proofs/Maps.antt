-- SPDX-License-Identifier: Apache-2.0
-- What calls of an ordered map do to the finite map that it stands for.
use Rattle.mspec.proofs.SpecWords.{◌≡◌, Bool, true, false, cond, List, [], ◌∷◌, Option, Some, None, map, refl, sym, ap, ◌∙◌, option_map, lookup, Ordering}
use Rattle.mspec.proofs.SpecWords.{is_eq, IsTotalOrder, eq_by_cmp_equiv, FinMap, get, insert, remove, get-insert, get-remove, get-from_entries, same_map}
use Rattle.mspec.proofs.SpecWords.{IsAntisymmetric, find, map_of}
use Rattle.std.specs.BTreeMap as tree
use Rattle.std.specs.BTreeMap.{BTreeMap}

module _ {K X V : Type 0} {R : K → K → Ordering} (total : IsTotalOrder R) (view : X → V) where
  found_some : (b : Bool) (x : X) (o : Option V) (r : Option X) → o ≡ option_map view r → cond b (Some (view x)) o ≡ option_map view (cond b (Some x) r)
  found_some true x o r e = refl
  found_some false x o r e = e

  found : (q : K) (es : List (K × X)) → find R q (map (λ e. (e.0, view e.1)) es) ≡ option_map view (lookup (λ k. is_eq (R q k)) es)
  found q [] = refl
  found q (e ∷ es) = found_some (is_eq (R q e.0)) e.1 _ _ (found q es)

  -- what it has at a key
  pub get-map_of : (m : BTreeMap K X) (q : K) → get (map_of {R = R} view m) q ≡ option_map view (tree.get R m q)
  get-map_of m q = get-from_entries total (map (λ e. (e.0, view e.1)) m.entries) q ∙ found q m.entries

  updated : (m n : BTreeMap K X) (k : K) (w : Option X) → tree.Updates R m n k w → (q : K) → get (map_of {R = R} view n) q ≡ cond (is_eq (R k q)) (option_map view w) (get (map_of {R = R} view m) q)
  updated m n k w u q = get-map_of n q ∙ ap (option_map view) (u.0 q) ∙ turned (is_eq (R k q)) ∙ ap (cond (is_eq (R k q)) (option_map view w)) (sym (get-map_of m q))
    where
      turned : (b : Bool) → option_map view (cond b w (tree.get R m q)) ≡ cond b (option_map view w) (option_map view (tree.get R m q))
      turned true = refl
      turned false = refl

  -- a value is put at a key
  pub insert-map_of : IsAntisymmetric R → (m n : BTreeMap K X) (k : K) (x : X) → tree.Updates R m n k (Some x) → map_of {R = R} view n ≡ insert (map_of view m) k (view x)
  insert-map_of exact m n k x u = same_map total exact _ _ (λ q. updated m n k (Some x) u q ∙ ap (λ b. cond b (Some (view x)) (get (map_of {R = R} view m) q)) ((eq_by_cmp_equiv total).symm k q) ∙ sym (get-insert total (map_of view m) k (view x) q))

-- what is found is what the map has, where values are read as they are
pub found_is_had : {K X : Type 0} {R : K → K → Ordering} (total : IsTotalOrder R) (m : BTreeMap K X) (q : K) → tree.get R m q ≡ get (map_of {R = R} (λ x. x) m) q
found_is_had {X = X} {R = R} total m q = sym (get-map_of total (λ x. x) m q ∙ same (tree.get R m q))
  where
    same : (o : Option X) → option_map (λ x. x) o ≡ o
    same None = refl
    same (Some x) = refl

-- what is put at a key stands in place of what was there
pub insert-remove : {K V : Type 0} {R : K → K → Ordering} (total : IsTotalOrder R) → IsAntisymmetric R → (m : FinMap R V) (k : K) (v : V) → insert (remove m k) k v ≡ insert m k v
insert-remove {R = R} total exact m k v = same_map total exact _ _ (λ q.
    get-insert total (remove m k) k v q ∙ ap (cond (is_eq (R q k)) (Some v)) (get-remove total m k q) ∙ kept (is_eq (R q k)) v (get m q)
    ∙ sym (get-insert total m k v q))
  where
    kept : {V : Type 0} (b : Bool) (v : V) (o : Option V) → cond b (Some v) (cond b None o) ≡ cond b (Some v) o
    kept true v o = refl
    kept false v o = refl
