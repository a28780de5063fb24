-- SPDX-License-Identifier: Apache-2.0
-- What $QUERY finds among the keys of a variable.
use Rattle.mlocal.proofs.LocalWords.{◌≡◌, ◌<◌, ◌&&◌, ◌||◌, ◌++◌, ◌∷◌, Bool, true, false, not, cond, [], List, All, All-head, All-tail, length, reverse, Option}
use Rattle.mlocal.proofs.LocalWords.{option_map, None, Some, refl, sym, ap, ◌∙◌, arith, and-true, reverse-append, find-append, find, option_or}
use Rattle.mlocal.proofs.LocalWords.{Ordering, Less}
use Rattle.mlocal.proofs.LocalWords.{Equal}
use Rattle.mlocal.proofs.LocalWords.{Greater, is_lt, is_le, ordering_then, ordering_reverse, Text, Tree, text_cmp, text_cmp_total, text_cmp_exact}
use Rattle.mlocal.proofs.LocalWords.{subscripts_cmp}
use Rattle.mlocal.proofs.LocalWords.{subscripts_cmp_total, significant_digits, bytes_decides, text_eq, is_within, is_empty, front, last, IsOrdered, BTreeMap}
use Rattle.mlocal.proofs.LocalWords.{map_of, with_own, AreSomeSubs, AreSubs, IsSub, beyond, behind_below, is_behind, is_between}
use Rattle.std.specs.Prelude.{if◌then◌else◌}
use Rattle.std.specs.BTreeMap as tree
use Rattle.std.specs.FinMap as map
use Rattle.mspec.specs.Trees as trees
use Rattle.mspec.specs.Trees.{following, comes_before, is_passed, without_empty}
use Rattle.mkey.proofs.Searches.{searched_after}
use Rattle.mlocal.specs.Way.{passed_end}
use Rattle.mlocal.proofs.Bounds.{beyond_last, not_same}
use Rattle.mlocal.proofs.Own.{own_keys, own_there, first_of_others}
use Rattle.mlocal.proofs.Steps.{same_keys, subs}
use Rattle.mlocal.proofs.Walks.{find_alike, all_reversed, no_keys, or_none}

abbrev C : Text → Text → Ordering
C = text_cmp significant_digits

abbrev R : List Text → List Text → Ordering
R = subscripts_cmp significant_digits

abbrev Full : List Text → Type 0
Full k = All IsSub k

pub full_of : (k : List Text) → AreSubs k → Full k
full_of k subs = λ i d inside. (subs.0.each i d inside, subs.1 i d inside)

-- ---- orders

turned : (o : Ordering) → not (is_le o) ≡ is_lt (ordering_reverse o)
turned Less = refl
turned Equal = refl
turned Greater = refl

-- ---- forward

pub forward_alike : (xs k : List Text) → AreSubs k → is_behind (without_empty xs) k ≡ comes_before xs k
forward_alike xs k subs =
    and-true (is_lt (R (without_empty xs) k)) ∙ searched_after xs k (λ i d inside. (subs.0.each i d inside).some)

none_before : (xs : List Text) → comes_before xs [] ≡ false
none_before [] = refl
none_before (x ∷ xs) = refl

-- ---- backward

step : (x c : Text) (o : Ordering) → C x c ≡ o → (a b : Ordering) (w : Bool) → not (is_le a) ≡ (w || is_lt b)
    → not (is_le (ordering_then o a)) ≡ ((text_eq x c && w) || is_lt (ordering_then (ordering_reverse o) b))
step x c Less e a b w h = ap (λ t. (t && w) || false) (sym (not_same x c Less e (λ n. cc)))
step x c Equal e a b w h = h ∙ ap (λ t. (t && w) || is_lt b) (sym ((bytes_decides x c).1 (text_cmp_exact significant_digits x c e)))
step x c Greater e a b w h = ap (λ t. (t && w) || true) (sym (not_same x c Greater e (λ n. cc)))

-- what comes before the end of all that is below a node is the node, or below it, or before it
before_end : (f k : List Text) → Full k → not (is_le (R (f ++ beyond ∷ []) k)) ≡ (is_within f k || is_lt (R k f))
before_end [] [] each = refl
before_end [] (c ∷ k) each = ap (λ o. not (is_le (ordering_then o (R [] k)))) (beyond_last c (All-head IsSub c k each))
before_end (x ∷ f) [] each = refl
before_end (x ∷ f) (c ∷ k) each =
    step x c (C x c) refl (R (f ++ beyond ∷ []) k) (R k f) (is_within f k) (before_end f k (All-tail IsSub c k each))
    ∙ ap (λ o. (text_eq x c && is_within f k) || is_lt (ordering_then o (R k f))) (sym ((text_cmp_total significant_digits).antisymm c x))

ended_alike : (ys k : List Text) → Full k → (b : Bool)
    → not (is_le (R (if b then behind_below (front ys) else ys) k)) ≡ (if b then is_within (front ys) k || comes_before k (front ys) else comes_before k ys)
ended_alike ys k each true = before_end (front ys) k each
ended_alike ys k each false = turned (R ys k) ∙ ap is_lt (sym ((subscripts_cmp_total significant_digits).antisymm k ys))

passed_alike : (xs k : List Text) → 0 < length xs → AreSomeSubs k → is_between [] (passed_end xs) k ≡ is_passed xs k
passed_alike xs [] some subs = let none = subs.1 in absurd (omega (arith, none))
passed_alike [] (c ∷ k) some subs = absurd (omega (arith, some))
passed_alike (x ∷ xs) (c ∷ k) some subs = ended_alike (x ∷ xs) (c ∷ k) (full_of (c ∷ k) subs.0) (is_empty (last (x ∷ xs)))

own_passed : (xs : List Text) → 0 < length xs → is_passed xs [] ≡ true
own_passed [] some = absurd (omega (arith, some))
own_passed (x ∷ xs) some = here (is_empty (last (x ∷ xs)))
  where
    above : (f : List Text) → (is_within f [] || comes_before [] f) ≡ true
    above [] = refl
    above (y ∷ f) = refl

    here : (b : Bool) → (if b then is_within (front (x ∷ xs)) [] || comes_before [] (front (x ∷ xs)) else comes_before [] (x ∷ xs)) ≡ true
    here true = above (front (x ∷ xs))
    here false = refl

-- the variable itself comes before all that a walk backward from one of its nodes comes to
pub before_all : (xs : List Text) → 0 < length xs → R [] (passed_end xs) ≡ Less
before_all [] some = absurd (omega (arith, some))
before_all (x ∷ xs) some = here (is_empty (last (x ∷ xs)))
  where
    longer : (f : List Text) → R [] (f ++ beyond ∷ []) ≡ Less
    longer [] = refl
    longer (y ∷ f) = refl

    here : (b : Bool) → R [] (if b then behind_below (front (x ∷ xs)) else x ∷ xs) ≡ Less
    here true = longer (front (x ∷ xs))
    here false = refl

-- nothing comes before a variable itself
none_passed : (ks : List (List Text)) → find (λ k. is_passed [] k) ks ≡ None
none_passed [] = refl
none_passed ([] ∷ ks) = none_passed ks
none_passed ((x ∷ k) ∷ ks) = none_passed ks

pub nothing_before : (t : Tree) → None ≡ following trees.Backward [] (map.keys t)
nothing_before t = sym (none_passed (reverse (map.keys t)))

-- the text of the variable itself
abbrev pub own_found : Option Text → Option (List Text)
own_found None = None
own_found (Some x) = Some []

with_own_last : (p : List Text → Bool) → p [] ≡ true → (ks : List (List Text)) (o : Option Text)
    → option_or (find p (reverse ks)) (own_found o) ≡ find p (reverse (own_keys o ++ ks))
with_own_last p passed ks None = or_none (find p (reverse ks))
with_own_last p passed ks (Some x) =
    sym (ap (find p) (reverse-append ([] ∷ []) ks) ∙ find-append p (reverse ks) ([] ∷ [])
    ∙ ap (λ b. option_or (find p (reverse ks)) (cond b (Some []) None)) passed)

some_alike : (p q : List Text → Bool) (ks : List (List Text)) → All AreSomeSubs ks → ((k : List Text) → AreSomeSubs k → p k ≡ q k) → find p ks ≡ find q ks
some_alike p q [] all alike = refl
some_alike p q (k ∷ ks) all alike =
    ap (λ b. cond b (Some k) (find p ks)) (alike k (All-head AreSomeSubs k ks all))
    ∙ ap (cond (q k) (Some k)) (some_alike p q ks (All-tail AreSomeSubs k ks all) alike)

-- ---- of a variable

module _ (t : Tree) (o : Option Text) (m : BTreeMap (List Text) Text) (is : with_own o (map_of (λ x. x) m) ≡ t)
    (ordered : IsOrdered (subscripts_cmp significant_digits) m) (all : All AreSomeSubs (tree.keys m)) (xs : List Text) where
  pub first_walk : (low : List Text) → low ≡ without_empty xs → (r : Option (List Text)) → r ≡ find (is_behind low) (tree.keys m)
      → r ≡ following trees.Forward xs (map.keys t)
  first_walk low from r e =
      e ∙ ap (λ l. find (is_behind l) (tree.keys m)) from
      ∙ find_alike (is_behind (without_empty xs)) (λ k. comes_before xs k) (tree.keys m) (subs t o m is ordered all) (forward_alike xs)
      ∙ first_of_others (λ k. comes_before xs k) (none_before xs) (tree.keys m) o
      ∙ ap (find (λ k. comes_before xs k)) (same_keys t o m is ordered all)

  own_is : option_map (λ x. []) (map.get t []) ≡ own_found o
  own_is = ap (option_map (λ x. [])) (sym (own_there o m all ∙ ap (λ u. map.get u []) is)) ∙ by_text o
    where
      by_text : (o : Option Text) → option_map (λ x. []) o ≡ own_found o
      by_text None = refl
      by_text (Some x) = refl

  -- the keys before the end, and then the variable itself
  pub passed_walk : 0 < length xs → (low high : List Text) → low ≡ [] → high ≡ passed_end xs → (r : Option (List Text))
      → r ≡ find (is_between low high) (reverse (tree.keys m)) → option_or r (option_map (λ x. []) (map.get t [])) ≡ following trees.Backward xs (map.keys t)
  passed_walk some low high from to r e =
      ap (option_or r) own_is
      ∙ ap (λ q. option_or q (own_found o)) (e ∙ ap (λ l. find (is_between l high) (reverse (tree.keys m))) from
      ∙ ap (λ h. find (is_between [] h) (reverse (tree.keys m))) to
      ∙ some_alike (is_between [] (passed_end xs)) (λ k. is_passed xs k) (reverse (tree.keys m)) (all_reversed AreSomeSubs (tree.keys m) all)
      (λ k subs. passed_alike xs k some subs))
      ∙ with_own_last (λ k. is_passed xs k) (own_passed xs some) (tree.keys m) o
      ∙ ap (λ ks. find (λ k. is_passed xs k) (reverse ks)) (same_keys t o m is ordered all)

-- a variable without a text has no node
pub none_follows : (d : trees.Direction) (xs : List Text) → None ≡ following d xs (map.keys (map.empty {X = Text} {R = subscripts_cmp significant_digits}))
none_follows trees.Forward xs = sym (ap (find (λ k. comes_before xs k)) no_keys)
none_follows trees.Backward xs = sym (ap (λ ks. find (λ k. is_passed xs k) (reverse ks)) no_keys)
