-- SPDX-License-Identifier: Apache-2.0
-- What calls of a map without an order do to the finite map that it stands for.
use Rattle.mspec.proofs.SpecWords.{◌≡◌, Bool, true, false, cond, List, [], ◌∷◌, Option, Some, None, map, refl, sym, ap, ◌∙◌, option_map, lookup, Ordering}
use Rattle.mspec.proofs.SpecWords.{is_eq, IsTotalOrder, eq_by_cmp_equiv, get, insert, remove, get-insert, get-remove, get-from_entries, same_map}
use Rattle.mspec.proofs.SpecWords.{IsAntisymmetric, find, hash_map_of}
use Rattle.std.specs.HashMap as hash
use Rattle.std.specs.HashMap.{HashMap}

-- keys that the map takes as equal are those that tie
module _ {K X V : Type 0} {R : K → K → Ordering} (total : IsTotalOrder R) (eq : K → K → Bool) (ties : (x y : K) → eq x y ≡ is_eq (R x y)) (view : X → V) where
  found_some : (b c : Bool) (x : X) (o : Option V) (r : Option X) → b ≡ c → o ≡ option_map view r → cond c (Some (view x)) o ≡ option_map view (cond b (Some x) r)
  found_some true c x o r e h = ap (λ b. cond b (Some (view x)) o) (sym e)
  found_some false c x o r e h = ap (λ b. cond b (Some (view x)) o) (sym e) ∙ h

  found : (q : K) (es : List (K × X)) → find R q (map (λ e. (e.0, view e.1)) es) ≡ option_map view (lookup (eq q) es)
  found q [] = refl
  found q (e ∷ es) = found_some (eq q e.0) (is_eq (R q e.0)) e.1 _ _ (ties q e.0) (found q es)

  -- what it has at a key
  pub get-hash_map_of : {S : Type 0} (m : HashMap K X S) (q : K) → get (hash_map_of {R = R} view m) q ≡ option_map view (hash.get eq m q)
  get-hash_map_of m q = get-from_entries total (map (λ e. (e.0, view e.1)) m.entries) q ∙ found q m.entries

  updated : {S : Type 0} (m n : HashMap K X S) (k : K) (w : Option X) → hash.Updates eq m n k w → (q : K) → get (hash_map_of {R = R} view n) q ≡ cond (is_eq (R q k)) (option_map view w) (get (hash_map_of {R = R} view m) q)
  updated m n k w u q =
      get-hash_map_of n q ∙ ap (option_map view) (u.0 q) ∙ turned (eq k q)
      ∙ ap (cond (eq k q) (option_map view w)) (sym (get-hash_map_of m q))
      ∙ ap (λ b. cond b (option_map view w) (get (hash_map_of {R = R} view m) q)) (ties k q ∙ (eq_by_cmp_equiv total).symm k q)
    where
      turned : (b : Bool) → option_map view (cond b w (hash.get eq m q)) ≡ cond b (option_map view w) (option_map view (hash.get eq m q))
      turned true = refl
      turned false = refl

  -- a value is put at a key
  pub insert-hash_map_of : {S : Type 0} → IsAntisymmetric R → (m n : HashMap K X S) (k : K) (x : X) → hash.Updates eq m n k (Some x) → hash_map_of {R = R} view n ≡ insert (hash_map_of view m) k (view x)
  insert-hash_map_of exact m n k x u = same_map total exact _ _ (λ q. updated m n k (Some x) u q ∙ sym (get-insert total (hash_map_of view m) k (view x) q))

  -- what is at a key is taken away
  pub remove-hash_map_of : {S : Type 0} → IsAntisymmetric R → (m n : HashMap K X S) (k : K) → hash.Updates eq m n k None → hash_map_of {R = R} view n ≡ remove (hash_map_of view m) k
  remove-hash_map_of exact m n k u = same_map total exact _ _ (λ q. updated m n k None u q ∙ sym (get-remove total (hash_map_of view m) k q))

-- what is found is what the map has, where values are read as they are
pub hash_found_is_had : {K X S : Type 0} {R : K → K → Ordering} (total : IsTotalOrder R) (eq : K → K → Bool) → ((x y : K) → eq x y ≡ is_eq (R x y)) → (m : HashMap K X S) (q : K)
    → hash.get eq m q ≡ get (hash_map_of {R = R} (λ x. x) m) q
hash_found_is_had {X = X} total eq ties m q = sym (get-hash_map_of total eq ties (λ x. x) m q ∙ same (hash.get eq m q))
  where
    same : (o : Option X) → option_map (λ x. x) o ≡ o
    same None = refl
    same (Some x) = refl
