-- SPDX-License-Identifier: Apache-2.0
-- What a search in the map of a variable finds of its tree.
use Rattle.mlocal.proofs.LocalWords.{◌≡◌, Bool, true, false, ◌||◌, List, [], ◌∷◌, ◌++◌, refl, reverse, reverse-append, list_any-append, All, Option, sym, ap}
use Rattle.mlocal.proofs.LocalWords.{◌∙◌, option_and_then, is_some, IsOrdered, list_any, find, map_of, Text, subscripts_cmp, significant_digits, Tree, child_of}
use Rattle.mlocal.proofs.LocalWords.{order_of, is_before, AreSubs, behind_below, with_own, AreSomeSubs, is_behind, is_between, has_child, BTreeMap}
use Rattle.std.specs.BTreeMap as tree
use Rattle.std.specs.FinMap as map
use Rattle.mspec.specs.Trees as trees
use Rattle.mlocal.proofs.Own.{own_keys, subs_each, keys_with_own, not_child, first_of_others, last_of_others, any_of_others}
use Rattle.mlocal.proofs.Walks.{find_alike, any_found, all_reversed, onward, order_forward}

or_swap : (a b : Bool) → (b || (a || false)) ≡ (a || b)
or_swap true true = refl
or_swap true false = refl
or_swap false true = refl
or_swap false false = refl

any-reverse : {A : Type 0} (p : A → Bool) (xs : List A) → list_any p (reverse xs) ≡ list_any p xs
any-reverse p [] = refl
any-reverse p (x ∷ xs) = ap (list_any p) (reverse-append (x ∷ []) xs) ∙ list_any-append p (reverse xs) (x ∷ []) ∙ ap (λ b. b || (p x || false)) (any-reverse p xs) ∙ or_swap (p x) (list_any p xs)

module _ (t : Tree) (o : Option Text) (m : BTreeMap (List Text) Text) (is : with_own o (map_of (λ x. x) m) ≡ t) (ordered : IsOrdered (subscripts_cmp significant_digits) m) (all : All AreSomeSubs (tree.keys m)) where
  pub same_keys : own_keys o ++ tree.keys m ≡ map.keys t
  same_keys = sym (keys_with_own o m ordered all) ∙ ap map.keys is

  pub subs : All AreSubs (tree.keys m)
  subs = subs_each (tree.keys m) all

  module _ (q p : List Text → Bool) (none : p [] ≡ false) (alike : (k : List Text) → AreSubs k → q k ≡ p k) where
    pub last_walk : (r : Option (List Text)) → r ≡ find q (reverse (tree.keys m)) → r ≡ find p (reverse (map.keys t))
    last_walk r e =
        e ∙ find_alike q p (reverse (tree.keys m)) (all_reversed AreSubs (tree.keys m) subs) alike
        ∙ last_of_others p none (tree.keys m) o ∙ ap (λ ks. find p (reverse ks)) same_keys

    pub any_walk : is_some (find q (reverse (tree.keys m))) ≡ list_any p (map.keys t)
    any_walk =
        any_found q p (reverse (tree.keys m)) (all_reversed AreSubs (tree.keys m) subs) alike ∙ any-reverse p (tree.keys m)
        ∙ any_of_others p none (tree.keys m) o ∙ ap (list_any p) same_keys

  pub onward_walk : (low xs : List Text) (x : Text) → ((k : List Text) → AreSubs k → is_between low (behind_below xs) k ≡ has_child (is_before x) xs k)
      → (r : Option (List Text)) → r ≡ find (is_behind low) (tree.keys m) → option_and_then (child_of xs) r ≡ order_of t trees.Forward xs x
  onward_walk low xs x alike r e =
      ap (option_and_then (child_of xs)) e ∙ onward low xs (tree.keys m) ordered subs
      ∙ ap (option_and_then (child_of xs)) (find_alike (is_between low (behind_below xs)) (has_child (is_before x) xs) (tree.keys m) subs alike
      ∙ first_of_others (has_child (is_before x) xs) (not_child (is_before x) xs) (tree.keys m) o
      ∙ ap (find (has_child (is_before x) xs)) same_keys)
      ∙ sym (order_forward t xs x)
