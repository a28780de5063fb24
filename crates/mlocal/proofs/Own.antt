-- SPDX-License-Identifier: Apache-2.0
-- The text of a variable beside those of its nodes with subscripts.
use Rattle.mlocal.proofs.LocalWords.{◌≡◌, ◌<◌, Bool, true, false, not, ◌||◌, cond, List, [], ◌∷◌, ◌++◌, length, reverse, All, Option, Some, None, refl, sym, ap}
use Rattle.mlocal.proofs.LocalWords.{◌∙◌, arith, slice_get, is_eq, Ordering, IsOrdered, insert, empty, get-empty, get-insert, get-retain_keys, same_map}
use Rattle.mlocal.proofs.LocalWords.{entries-insert, put, list_any, find, lookup, keys_of, option_or, reverse-append, All-head, All-tail, find-append, map_of}
use Rattle.mlocal.proofs.LocalWords.{Text, subscripts_cmp, significant_digits, Tree, is_within, without, found_is_had, subscripts_cmp_total}
use Rattle.mlocal.proofs.LocalWords.{subscripts_cmp_exact, AreSubs, with_own, AreSomeSubs, passes, has_child, BTreeMap}
use Rattle.std.specs.BTreeMap as tree
use Rattle.std.specs.FinMap as map
use Rattle.std.specs.FinMap.{get}
use Rattle.mlocal.proofs.Walks.{or_none, keys_are, entries_are_of}

abbrev R : List Text → List Text → Ordering
R = subscripts_cmp significant_digits

pub subs_each : (ks : List (List Text)) → All AreSomeSubs ks → All AreSubs ks
subs_each ks all = λ k d inside. (all k d inside).0

-- ---- what it has at a node

none_empty : (es : List (List Text × Text)) → All AreSomeSubs (keys_of es) → lookup (λ k. is_eq (R [] k)) es ≡ None
none_empty [] all = refl
none_empty (e ∷ es) all = here e.0 (All-head AreSomeSubs e.0 (keys_of es) all).1 (none_empty es (All-tail AreSomeSubs e.0 (keys_of es) all))
  where
    here : (k : List Text) → 0 < length k → lookup (λ k. is_eq (R [] k)) es ≡ None → cond (is_eq (R [] k)) (Some e.1) (lookup (λ k. is_eq (R [] k)) es) ≡ None
    here [] some rest = absurd (omega arith)
    here (s ∷ k) some rest = rest

pub own_there : (o : Option Text) (m : BTreeMap (List Text) Text) → All AreSomeSubs (tree.keys m) → o ≡ get (with_own o (map_of (λ x. x) m)) []
own_there None m all = sym (none_empty m.entries all) ∙ found_is_had (subscripts_cmp_total significant_digits) m []
own_there (Some x) m all = sym (get-insert (subscripts_cmp_total significant_digits) (map_of (λ x. x) m) [] x [])

pub others_there : (o : Option Text) (t : Tree) (k : List Text) → 0 < length k → get t k ≡ get (with_own o t) k
others_there None t k some = refl
others_there (Some x) t [] some = absurd (omega arith)
others_there (Some x) t (s ∷ k) some = sym (get-insert (subscripts_cmp_total significant_digits) t [] x (s ∷ k))

-- ---- a text is given, or taken

pub retained : (t : Tree) (k q : List Text) → get (without t k) q ≡ cond (not (is_within k q)) (get t q) None
retained t k q = get-retain_keys t (λ ys. not (is_within k ys)) q (λ x e. ap (λ ys. not (is_within k ys)) (sym (subscripts_cmp_exact significant_digits q x e)))

module _ (t : Tree) where
  twice : (b : Bool) (x y : Text) (o : Option Text) → cond b (Some x) o ≡ cond b (Some x) (cond b (Some y) o)
  twice true x y o = refl
  twice false x y o = refl

  pub own_set : (o : Option Text) (x : Text) → with_own (Some x) t ≡ insert (with_own o t) [] x
  own_set None x = refl
  own_set (Some y) x = same_map (subscripts_cmp_total significant_digits) (subscripts_cmp_exact significant_digits) _ _ (λ q.
      get-insert (subscripts_cmp_total significant_digits) t [] x q
      ∙ twice (is_eq (R q [])) x y (get t q)
      ∙ ap (cond (is_eq (R q [])) (Some x)) (sym (get-insert (subscripts_cmp_total significant_digits) t [] y q))
      ∙ sym (get-insert (subscripts_cmp_total significant_digits) (insert t [] y) [] x q))

  swapped : (q k : List Text) (x y : Text) (o : Option Text) → 0 < length k → cond (is_eq (R q [])) (Some y) (cond (is_eq (R q k)) (Some x) o) ≡ cond (is_eq (R q k)) (Some x) (cond (is_eq (R q [])) (Some y) o)
  swapped q [] x y o some = absurd (omega arith)
  swapped [] (s ∷ k) x y o some = refl
  swapped (r ∷ q) (s ∷ k) x y o some = refl

  pub other_set : (o : Option Text) (k : List Text) (x : Text) → 0 < length k → with_own o (insert t k x) ≡ insert (with_own o t) k x
  other_set None k x some = refl
  other_set (Some y) k x some = same_map (subscripts_cmp_total significant_digits) (subscripts_cmp_exact significant_digits) _ _ (λ q.
      get-insert (subscripts_cmp_total significant_digits) (insert t k x) [] y q
      ∙ ap (cond (is_eq (R q [])) (Some y)) (get-insert (subscripts_cmp_total significant_digits) t k x q)
      ∙ swapped q k x y (get t q) some
      ∙ ap (cond (is_eq (R q k)) (Some x)) (sym (get-insert (subscripts_cmp_total significant_digits) t [] y q))
      ∙ sym (get-insert (subscripts_cmp_total significant_digits) (insert t [] y) k x q))

  kept : (k : List Text) → List Text → Bool
  kept k = λ ys. not (is_within k ys)

  pub own_killed : (o : Option Text) → empty ≡ without (with_own o t) []
  own_killed o = same_map (subscripts_cmp_total significant_digits) (subscripts_cmp_exact significant_digits) _ _ (λ q. get-empty R q ∙ sym (retained (with_own o t) [] q))

  spared : (q k : List Text) (y : Text) (o : Option Text) → 0 < length k → cond (is_eq (R q [])) (Some y) (cond (not (is_within k q)) o None) ≡ cond (not (is_within k q)) (cond (is_eq (R q [])) (Some y) o) None
  spared q [] y o some = absurd (omega arith)
  spared [] (s ∷ k) y o some = refl
  spared (r ∷ q) (s ∷ k) y o some = refl

  pub other_killed : (o : Option Text) (k : List Text) → 0 < length k → with_own o (without t k) ≡ without (with_own o t) k
  other_killed None k some = refl
  other_killed (Some y) k some = same_map (subscripts_cmp_total significant_digits) (subscripts_cmp_exact significant_digits) _ _ (λ q.
      get-insert (subscripts_cmp_total significant_digits) (without t k) [] y q
      ∙ ap (cond (is_eq (R q [])) (Some y)) (retained t k q)
      ∙ spared q k y (get t q) some
      ∙ ap (λ g. cond (not (is_within k q)) g None) (sym (get-insert (subscripts_cmp_total significant_digits) t [] y q))
      ∙ sym (retained (insert t [] y) k q))

-- ---- its nodes

abbrev pub own_keys : Option Text → List (List Text)
own_keys None = []
own_keys (Some x) = [] ∷ []

put_first : (es : List (List Text × Text)) (x : Text) → All AreSomeSubs (keys_of es) → put R [] x es ≡ ([], x) ∷ es
put_first [] x all = refl
put_first (e ∷ es) x all = here e.0 e.1 (All-head AreSomeSubs e.0 (keys_of es) all).1
  where
    here : (k : List Text) (v : Text) → 0 < length k → put R [] x ((k, v) ∷ es) ≡ ([], x) ∷ ((k, v) ∷ es)
    here [] v some = absurd (omega arith)
    here (s ∷ k) v some = refl

pub keys_with_own : (o : Option Text) (m : BTreeMap (List Text) Text) → IsOrdered R m → All AreSomeSubs (tree.keys m) → map.keys (with_own o (map_of (λ x. x) m)) ≡ own_keys o ++ tree.keys m
keys_with_own None m ordered all = keys_are (subscripts_cmp_total significant_digits) (subscripts_cmp_exact significant_digits) m ordered
keys_with_own (Some x) m ordered all =
    ap keys_of (entries-insert (subscripts_cmp_total significant_digits) (map_of (λ x. x) m) [] x
    ∙ ap (put R [] x) (entries_are_of (subscripts_cmp_total significant_digits) (subscripts_cmp_exact significant_digits) m ordered)
    ∙ put_first m.entries x all)

-- it is not below a node
pub not_child : (p : Text → Bool) (xs : List Text) → has_child p xs [] ≡ false
not_child p xs = here (is_within xs [])
  where
    here : (b : Bool) → passes p (cond b (slice_get {X = Text} [] (length xs)) None) ≡ false
    here true = refl
    here false = refl

module _ (p : List Text → Bool) (none : p [] ≡ false) (ks : List (List Text)) where
  pub first_of_others : (o : Option Text) → find p ks ≡ find p (own_keys o ++ ks)
  first_of_others None = refl
  first_of_others (Some x) = sym (ap (λ b. cond b (Some []) (find p ks)) none)

  pub last_of_others : (o : Option Text) → find p (reverse ks) ≡ find p (reverse (own_keys o ++ ks))
  last_of_others None = refl
  last_of_others (Some x) =
      sym (ap (find p) (reverse-append ([] ∷ []) ks) ∙ find-append p (reverse ks) ([] ∷ [])
      ∙ ap (λ b. option_or (find p (reverse ks)) (cond b (Some []) None)) none ∙ or_none (find p (reverse ks)))

  pub any_of_others : (o : Option Text) → list_any p ks ≡ list_any p (own_keys o ++ ks)
  any_of_others None = refl
  any_of_others (Some x) = sym (ap (λ b. b || list_any p ks) none)
