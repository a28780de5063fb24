-- SPDX-License-Identifier: Apache-2.0
-- Variables that have no text left.
use Rattle.mlocal.proofs.LocalWords.{◌≡◌, ℕ, suc, Bool, true, false, not, cond, ◌&&◌, List, [], ◌∷◌, length, map, Option, Some, None, refl, sym, ap, ◌∙◌, arith}
use Rattle.mlocal.proofs.LocalWords.{is_none, nat_eq, HashMap, Ordering, Less, Equal, Greater, slice_cmp, pointwise, texts_ties, nat_list_cmp_total, insert}
use Rattle.mlocal.proofs.LocalWords.{empty, entries, from_entries, retain_keys, entries-insert, len-empty, len-entries, get-remove, get-retain_keys, same_map}
use Rattle.mlocal.proofs.LocalWords.{by_order, put, eq_by_cmp, nat_tests, eq_by_cmp_equiv, length-keys_of, map_of, hash_map_of, Text, subscripts_cmp}
use Rattle.mlocal.proofs.LocalWords.{significant_digits, is_bare, Tree, text_eq, remove-hash_map_of, subscripts_cmp_total, with_own, BTreeMap, nat_cmp}
use Rattle.std.specs.FinMap.{get}
use Rattle.std.specs.HashMap as hash
use Rattle.mlocal.proofs.Views.{names_exact}

abbrev R : List Text → List Text → Ordering
R = subscripts_cmp significant_digits

-- ---- a tree without nodes

pub empty_bare : true ≡ is_bare empty
empty_bare = ap (λ k. nat_eq k 0) (sym (length-keys_of (entries (empty {X = Text} {R = R})) ∙ sym (len-entries (empty {X = Text} {R = R})) ∙ len-empty R Text))

not_none : (n : ℕ) → false ≡ nat_eq (suc n) 0
not_none n = grind (arith, nat_tests)

some_put : (k : List Text) (x : Text) (es : List (List Text × Text)) → false ≡ nat_eq (length (map (λ e. e.0) (put R k x es))) 0
some_put k x [] = refl
some_put k x (e ∷ es) = here (R k e.0)
  where
    here : (o : Ordering) → false ≡ nat_eq (length (map (λ e. e.0) (by_order o ((k, x) ∷ e ∷ es) ((e.0, x) ∷ es) (e ∷ put R k x es)))) 0
    here Less = not_none (suc (length (map (λ e. e.0) es)))
    here Equal = not_none (length (map (λ e. e.0) es))
    here Greater = not_none (length (map (λ e. e.0) (put R k x es)))

pub given_text : (t : Tree) (k : List Text) (x : Text) → false ≡ is_bare (insert t k x)
given_text t k x = some_put k x (entries t) ∙ ap (λ es. nat_eq (length (map (λ e. e.0) es)) 0) (sym (entries-insert (subscripts_cmp_total significant_digits) t k x))

values_bare : (es : List (List Text × Text)) → nat_eq (length es) 0 ≡ is_bare (from_entries {R = R} (map (λ e. (e.0, e.1)) es))
values_bare [] = empty_bare
values_bare (e ∷ es) = sym (not_none (length es)) ∙ given_text (from_entries (map (λ e. (e.0, e.1)) es)) e.0 e.1

pub own_bare : (o : Option Text) (m : BTreeMap (List Text) Text) → (is_none o && nat_eq (length m.entries) 0) ≡ is_bare (with_own o (map_of (λ x. x) m))
own_bare None m = values_bare m.entries
own_bare (Some x) m = given_text (map_of (λ x. x) m) [] x

-- ---- a name is taken out

flipped : (b : Bool) (o : Option Tree) → cond b None o ≡ cond (not b) o None
flipped true o = refl
flipped false o = refl

pub dropped : {S : Type 0} (m n : HashMap Text Tree S) (k : Text) → hash.Updates (pointwise nat_eq) m n k None
    → hash_map_of {R = slice_cmp nat_cmp} (λ t. t) n ≡ retain_keys (hash_map_of (λ t. t) m) (λ x. not (text_eq k x))
dropped m n k u = remove-hash_map_of nat_list_cmp_total (pointwise nat_eq) texts_ties (λ t. t) names_exact m n k u ∙ same_map nat_list_cmp_total names_exact _ _ (λ q.
    let had = get (hash_map_of {R = slice_cmp nat_cmp} (λ t. t) m) q in
    get-remove nat_list_cmp_total (hash_map_of (λ t. t) m) k q
    ∙ flipped (eq_by_cmp (slice_cmp nat_cmp) q k) had
    ∙ ap (λ b. cond (not b) had None) (sym (texts_ties k q ∙ (eq_by_cmp_equiv nat_list_cmp_total).symm k q))
    ∙ sym (get-retain_keys (hash_map_of (λ t. t) m) (λ x. not (text_eq k x)) q (λ x e. ap (λ y. not (text_eq k y)) (sym (names_exact q x e)))))
