-- SPDX-License-Identifier: Apache-2.0
-- The first and the last of the nodes that a test takes, as what $DATA and $ORDER ask.
use Rattle.mlocal.proofs.LocalWords.{◌≡◌, Bool, true, false, not, ◌&&◌, ◌||◌, cond, List, [], ◌∷◌, ◌++◌, map, reverse, All, Option, Some, None, refl, sym, ap}
use Rattle.mlocal.proofs.LocalWords.{◌∙◌, subst, slice_get, option_and_then, option_map, is_some, T, Ordering, Less, Equal, Greater, and_right, IsOrdered}
use Rattle.mlocal.proofs.LocalWords.{IsTotalOrder, IsAntisymmetric, from_entries, from_sorted, empty, entries, len-entries, len-empty, get-empty, same_map}
use Rattle.mlocal.proofs.LocalWords.{get-from_entries, get-from_sorted, entries-from_sorted, is_sorted, below_all, list_any, find, flat_map, keys_of}
use Rattle.mlocal.proofs.LocalWords.{option_to_list, option_or, reverse-append, map-id, find-append, All-after_first, All-head, All-tail, All-push, All-nil}
use Rattle.mlocal.proofs.LocalWords.{map_of, Text, subscripts_cmp, significant_digits, Tree, is_below, child_of, order_of, is_before, is_empty, has_value}
use Rattle.mlocal.proofs.LocalWords.{has_descendants, subscripts_cmp_total, AreSubs, behind_below, is_behind, is_between, passes, has_child, is_lt, is_le}
use Rattle.mlocal.proofs.LocalWords.{BTreeMap, filter}
use Rattle.std.specs.BTreeMap as tree
use Rattle.std.specs.FinMap as map
use Rattle.std.specs.List.Sorted.{IsStrictlySortedBy}
use Rattle.std.proofs.lemmas.Map.Keys.{sorted_tail}
use Rattle.mspec.specs.Trees as trees
pub use Rattle.mkey.proofs.Children.{no_list, not_empty, split_last, whole, below_is}
use Rattle.mkey.proofs.Children.{find_child, find_last_child}
use Rattle.mlocal.proofs.Bounds.{below_all as each_below}

-- ---- the first that a test takes

pub find_alike : (p q : List Text → Bool) (ks : List (List Text)) → All AreSubs ks → ((k : List Text) → AreSubs k → p k ≡ q k) → find p ks ≡ find q ks
find_alike p q [] all alike = refl
find_alike p q (k ∷ ks) all alike =
    ap (λ b. cond b (Some k) (find p ks)) (alike k (All-head AreSubs k ks all)) ∙ ap (cond (q k) (Some k)) (find_alike p q ks (All-tail AreSubs k ks all) alike)

pub any_found : (p q : List Text → Bool) (ks : List (List Text)) → All AreSubs ks → ((k : List Text) → AreSubs k → p k ≡ q k) → is_some (find p ks) ≡ list_any q ks
any_found p q [] all alike = refl
any_found p q (k ∷ ks) all alike = here (p k) (q k) (alike k (All-head AreSubs k ks all)) (any_found p q ks (All-tail AreSubs k ks all) alike)
  where
    here : (a b : Bool) → a ≡ b → is_some (find p ks) ≡ list_any q ks → is_some (cond a (Some k) (find p ks)) ≡ (b || list_any q ks)
    here true b e h = ap (λ c. c || list_any q ks) e
    here false b e h = h ∙ ap (λ c. c || list_any q ks) e

-- ---- the subscripts that follow a list

abbrev subs_of : List Text → List (List Text) → List Text
subs_of xs ks = flat_map (λ ys. option_to_list (child_of xs ys)) ks

pub order_forward : (t : Tree) (xs : List Text) (x : Text) → order_of t trees.Forward xs x ≡ option_and_then (child_of xs) (find (has_child (is_before x) xs) (map.keys t))
order_forward t xs x = find_child (child_of xs) (is_before x) (map.keys t)

pub order_backward : (t : Tree) (xs : List Text) (x : Text) → order_of t trees.Backward xs x ≡ option_and_then (child_of xs) (find (has_child (λ c. is_empty x || is_before c x) xs) (reverse (map.keys t)))
order_backward t xs x = find_last_child (child_of xs) (λ c. is_empty x || is_before c x) (map.keys t)

-- ---- what a range begins and ends with

pub or_none : {K : Type 0} (o : Option K) → option_or o None ≡ o
or_none None = refl
or_none (Some k) = refl

module _ {K X : Type 0} (p : K → Bool) where
  first_kept : (es : List (K × X)) → find p (keys_of es) ≡ option_map (λ e. e.0) (slice_get (filter (λ e. p e.0) es) 0)
  first_kept [] = refl
  first_kept (e ∷ es) = here (p e.0) (first_kept es)
    where
      here : (b : Bool) → find p (keys_of es) ≡ option_map (λ e. e.0) (slice_get (filter (λ e. p e.0) es) 0) → cond b (Some e.0) (find p (keys_of es)) ≡ option_map (λ e. e.0) (slice_get (cond b (e ∷ filter (λ e. p e.0) es) (filter (λ e. p e.0) es)) 0)
      here true h = refl
      here false h = h

  pub first_is : (es : List (K × X)) (e : K × X) (t : List (K × X)) → filter (λ e. p e.0) es ≡ e ∷ t → Some e.0 ≡ find p (keys_of es)
  first_is es e t h = sym (first_kept es ∙ ap (λ l. option_map (λ e. e.0) (slice_get l 0)) h)

  pub none_is : (es : List (K × X)) → filter (λ e. p e.0) es ≡ [] → None ≡ find p (keys_of es)
  none_is es h = sym (first_kept es ∙ ap (λ l. option_map (λ e. e.0) (slice_get l 0)) h)

  or_first : (l : List (K × X)) (e : K × X) → option_or (option_map (λ e. e.0) (slice_get l 0)) (Some e.0) ≡ option_map (λ e. e.0) (slice_get (l ++ e ∷ []) 0)
  or_first [] e = refl
  or_first (d ∷ l) e = refl

  last_kept : (es : List (K × X)) → find p (reverse (keys_of es)) ≡ option_map (λ e. e.0) (slice_get (reverse (filter (λ e. p e.0) es)) 0)
  last_kept [] = refl
  last_kept (e ∷ es) =
      ap (find p) (reverse-append (e.0 ∷ []) (keys_of es)) ∙ find-append p (reverse (keys_of es)) (e.0 ∷ [])
      ∙ ap (λ o. option_or o (cond (p e.0) (Some e.0) None)) (last_kept es) ∙ here (filter (λ e. p e.0) es) (p e.0)
    where
      here : (kept : List (K × X)) (b : Bool) → option_or (option_map (λ e. e.0) (slice_get (reverse kept) 0)) (cond b (Some e.0) None) ≡ option_map (λ e. e.0) (slice_get (reverse (cond b (e ∷ kept) kept)) 0)
      here kept true = or_first (reverse kept) e ∙ ap (λ l. option_map (λ e. e.0) (slice_get l 0)) (sym (reverse-append (e ∷ []) kept))
      here kept false = or_none _

  pub last_is : (es : List (K × X)) (e : K × X) (t : List (K × X)) → filter (λ e. p e.0) es ≡ t ++ e ∷ [] → Some e.0 ≡ find p (reverse (keys_of es))
  last_is es e t h = sym (last_kept es ∙ ap (λ l. option_map (λ e. e.0) (slice_get (reverse l) 0)) h ∙ ap (λ l. option_map (λ e. e.0) (slice_get l 0)) (reverse-append t (e ∷ [])))

  pub none_last : (es : List (K × X)) → filter (λ e. p e.0) es ≡ [] → None ≡ find p (reverse (keys_of es))
  none_last es h = sym (last_kept es ∙ ap (λ l. option_map (λ e. e.0) (slice_get (reverse l) 0)) h)

pub all_reversed : {X : Type 0} (P : X → Type 0) (xs : List X) → All P xs → All P (reverse xs)
all_reversed P [] all = All-nil P
all_reversed P (x ∷ xs) all = subst (All P) (sym (reverse-append (x ∷ []) xs)) (All-push P (reverse xs) x (all_reversed P xs (All-tail P x xs all)) (All-head P x xs all))

-- what was found is one of them
pub found_all : {K : Type 0} (P : K → Type 0) (p : K → Bool) (ks : List K) → All P ks → (k : K) → Some k ≡ find p ks → P k
found_all P p [] all k e = absurd (cc)
found_all P p (x ∷ ks) all k e = here (p x) e (found_all P p ks (All-tail P x ks all) k)
  where
    here : (b : Bool) → Some k ≡ cond b (Some x) (find p ks) → (Some k ≡ find p ks → P k) → P k
    here true e rest = let same : x ≡ k = cc in subst P same (All-head P x ks all)
    here false e rest = rest e

-- ---- the keys of an ordered map

both_hold : (a b : Bool) → T a → T b → T (a && b)
both_hold true b s t = t
both_hold false b s t = absurd s

module _ {K X : Type 0} {R : K → K → Ordering} (total : IsTotalOrder R) (exact : IsAntisymmetric R) where
  below_every : (k : K) (es : List (K × X)) → All (λ q. R k q ≡ Less) (keys_of es) → T (below_all R k es)
  below_every k [] all = tt
  below_every k (e ∷ es) all =
      let first : R k e.0 ≡ Less = All-head (λ q. R k q ≡ Less) e.0 (keys_of es) all in
      subst T (sym (ap (λ o. is_lt o && below_all R k es) first)) (below_every k es (All-tail (λ q. R k q ≡ Less) e.0 (keys_of es) all))

  sorted_entries : (es : List (K × X)) → IsStrictlySortedBy R (keys_of es) → T (is_sorted R es)
  sorted_entries [] h = tt
  sorted_entries (e ∷ es) h =
      both_hold (below_all R e.0 es) (is_sorted R es) (below_every e.0 es (All-after_first R e.0 (keys_of es) h)) (sorted_entries es (sorted_tail R e.0 (keys_of es) h))

  entries_are : (es : List (K × X)) → IsStrictlySortedBy R (keys_of es) → entries (from_entries {R = R} es) ≡ es
  entries_are es h =
      let sorted : T (is_sorted R es) = sorted_entries es h in
      ap entries (same_map total exact (from_entries es) (from_sorted es) (λ q. get-from_entries total es q ∙ sym (get-from_sorted R es q sorted)))
      ∙ entries-from_sorted R es sorted

  pub entries_are_of : (m : BTreeMap K X) → IsOrdered R m → entries (map_of {R = R} (λ x. x) m) ≡ m.entries
  entries_are_of m h = ap (λ es. entries (from_entries {R = R} es)) (map-id m.entries) ∙ entries_are m.entries h

  pub keys_are : (m : BTreeMap K X) → IsOrdered R m → map.keys (map_of {R = R} (λ x. x) m) ≡ tree.keys m
  keys_are m h = ap (map (λ e. e.0)) (entries_are_of m h)

pub some_map : {X Y : Type 0} (f : X → Y) (o : Option X) → is_some o ≡ is_some (option_map f o)
some_map f None = refl
some_map f (Some x) = refl

-- ---- the first after a bound, where what lies past a node has no subscript there

abbrev R : List Text → List Text → Ordering
R = subscripts_cmp significant_digits

passed : (o : Option Text) → passes (λ c. true) o ≡ false → o ≡ None
passed None e = refl
passed (Some c) e = cc

-- what is at the end of those below a list or after it is not below it
past_below : (xs k : List Text) → AreSubs k → not (is_le (R (behind_below xs) k)) ≡ false → child_of xs k ≡ None
past_below xs k subs e =
    passed (child_of xs k) (sym (each_below (λ c. true) (λ s sub. refl) xs k subs) ∙ ap (λ b. is_lt (R xs k) && b) e ∙ and_right (is_lt (R xs k)) false refl)

later : (h k q : List Text) → not (is_le (R h k)) ≡ false → R k q ≡ Less → not (is_le (R h q)) ≡ false
later h k q e less = by_order (R h k) refl e
  where
    total : IsTotalOrder R
    total = subscripts_cmp_total significant_digits

    by_order : (o : Ordering) → R h k ≡ o → not (is_le o) ≡ false → not (is_le (R h q)) ≡ false
    by_order Less is f = ap (λ o. not (is_le o)) (total.trans h k q is less)
    by_order Equal is f = ap (λ o. not (is_le o)) (total.congr h k q is ∙ less)
    by_order Greater is f = cc

none_later : (low h k : List Text) (ks : List (List Text)) → not (is_le (R h k)) ≡ false → All (λ q. R k q ≡ Less) ks → find (is_between low h) ks ≡ None
none_later low h k [] e all = refl
none_later low h k (q ∷ ks) e all =
    ap (λ b. cond (is_lt (R low q) && b) (Some q) (find (is_between low h) ks)) (later h k q e (All-head (λ q. R k q ≡ Less) q ks all))
    ∙ here (is_lt (R low q)) (none_later low h k ks e (All-tail (λ q. R k q ≡ Less) q ks all))
  where
    here : (b : Bool) → find (is_between low h) ks ≡ None → cond (b && false) (Some q) (find (is_between low h) ks) ≡ None
    here true rest = rest
    here false rest = rest

pub onward : (low xs : List Text) (ks : List (List Text)) → IsStrictlySortedBy R ks → All AreSubs ks
    → option_and_then (child_of xs) (find (is_behind low) ks) ≡ option_and_then (child_of xs) (find (is_between low (behind_below xs)) ks)
onward low xs [] sorted all = refl
onward low xs (k ∷ ks) sorted all =
    here (is_lt (R low k)) (not (is_le (R (behind_below xs) k))) refl (onward low xs ks (sorted_tail R k ks sorted) (All-tail AreSubs k ks all))
  where
    here : (a b : Bool) → not (is_le (R (behind_below xs) k)) ≡ b
        → option_and_then (child_of xs) (find (is_behind low) ks) ≡ option_and_then (child_of xs) (find (is_between low (behind_below xs)) ks)
        → option_and_then (child_of xs) (cond (a && true) (Some k) (find (is_behind low) ks)) ≡ option_and_then (child_of xs) (cond (a && b) (Some k) (find (is_between low (behind_below xs)) ks))
    here false b e rest = rest
    here true true e rest = refl
    here true false e rest =
        past_below xs k (All-head AreSubs k ks all) e
        ∙ sym (ap (option_and_then (child_of xs)) (none_later low (behind_below xs) k ks e (All-after_first R k ks sorted)))

-- a variable without a text has no node
pub no_keys : map.keys (empty {X = Text} {R = subscripts_cmp significant_digits}) ≡ []
no_keys = ap (map (λ e. e.0)) (no_list (entries empty) (sym (len-entries empty) ∙ len-empty (subscripts_cmp significant_digits) Text))

pub none_next : (direction : trees.Direction) (xs : List Text) (x : Text) → None ≡ order_of empty direction xs x
none_next trees.Forward xs x = sym (ap (λ ks. find (is_before x) (subs_of xs ks)) no_keys)
none_next trees.Backward xs x = sym (ap (λ ks. find (λ c. is_empty x || is_before c x) (reverse (subs_of xs ks))) no_keys)

pub none_below : (xs : List Text) → false ≡ has_descendants empty xs
none_below xs = sym (ap (list_any (is_below xs)) no_keys)

pub none_there : (xs : List Text) → false ≡ has_value empty xs
none_there xs = sym (ap is_some (get-empty (subscripts_cmp significant_digits) xs))
