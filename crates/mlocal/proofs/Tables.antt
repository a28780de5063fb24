-- SPDX-License-Identifier: Apache-2.0
-- The variables of a scope by their names: what is read and written at the place of a name.
use Rattle.mlocal.proofs.LocalWords.{◌≡◌, ◌<◌, ℕ, Bool, true, false, cond, List, Option, Some, None, refl, sym, ap, ◌∙◌, subst, get_or, slice_get, position}
use Rattle.mlocal.proofs.LocalWords.{unwrap_or, option_map, nat_eq, is_some, MatchOption, Ordering, Less, Equal, Greater, is_eq, IfSome, not, tied_itself}
use Rattle.mlocal.proofs.LocalWords.{slice_get-get_or, slice_get-map, slice_cmp, pointwise, texts_ties, nat_list_cmp_total, nat_list_eq_equiv, bytes_decides}
use Rattle.mlocal.proofs.LocalWords.{insert, empty, retain_keys, get-insert, same_map, keys_of, values_of, IndexMap, IsUnique, Updates, with_value_at}
use Rattle.mlocal.proofs.LocalWords.{hash_map_of, Text, is_bare, Tree, text_eq, without, hash_found_is_had, insert-hash_map_of, NamedTrees, tree_at, tidied_at}
use Rattle.mlocal.proofs.LocalWords.{kill_at, StandsAt, nat_cmp}
use Rattle.std.proofs.lemmas.List.Quantifiers.{position-Some}
use Rattle.std.specs.FinMap.{get}
use Rattle.indexmap.specs.IndexMap as index
use Rattle.indexmap.proofs.CallerLemmas.{keys-with_value_at, updates-with_value_at}
use Rattle.mlocal.proofs.Bare.{dropped}
use Rattle.mlocal.proofs.Views.{names_exact}

-- names that are found equal are one
pub same_name : (n q : Text) → pointwise nat_eq n q ≡ true → n ≡ q
same_name n q e = (bytes_decides n q).0 e

-- where a name is found, it stands
pub name_there : (n : Text) (ks : List Text) (i : ℕ) → position (pointwise nat_eq n) ks ≡ Some i → slice_get ks i ≡ Some n
name_there n ks i e =
    let found = position-Some (pointwise nat_eq n) ks i n e in
    slice_get-get_or ks i n found.0 ∙ ap Some (sym (same_name n (get_or ks i n) found.1))

-- a name that was found equal to the one at an index
pub hinted_key : (es : List (Text × Tree)) (i : ℕ) (q n : Text) (v : Tree) → Some (q, v) ≡ slice_get es i → q ≡ n → slice_get (keys_of es) i ≡ Some n
hinted_key es i q n v at same = slice_get-map (λ e. e.0) es i ∙ ap (option_map (λ e. e.0)) (sym at) ∙ ap Some same

pub hinted_value : (es : List (Text × Tree)) (i : ℕ) (q : Text) (v : Tree) → Some (q, v) ≡ slice_get es i → slice_get (values_of es) i ≡ Some v
hinted_value es i q v at = slice_get-map (λ e. e.1) es i ∙ ap (option_map (λ e. e.1)) (sym at)

entry_at : (es : List (Text × Tree)) (i : ℕ) (n : Text) (v : Tree) → slice_get (keys_of es) i ≡ Some n → slice_get (values_of es) i ≡ Some v → slice_get es i ≡ Some (n, v)
entry_at es i n v k x = here (slice_get es i) (sym (slice_get-map (λ e. e.0) es i) ∙ k) (sym (slice_get-map (λ e. e.1) es i) ∙ x)
  where
    here : (o : Option (Text × Tree)) → option_map (λ e. e.0) o ≡ Some n → option_map (λ e. e.1) o ≡ Some v → o ≡ Some (n, v)
    here None a b = absurd (cc)
    here (Some e) a b =
        let first : e.0 ≡ n = cc in
        let second : e.1 ≡ v = cc in
        λ j. Some (first j, second j)

-- a tree in place of one that was there
insert_kept : (ts : NamedTrees) (n : Text) (t : Tree) → get ts n ≡ Some t → insert ts n t ≡ ts
insert_kept ts n t there = same_map nat_list_cmp_total names_exact _ _ (λ q. get-insert nat_list_cmp_total ts n t q ∙ here q (slice_cmp nat_cmp q n) refl)
  where
    here : (q : Text) (o : Ordering) → slice_cmp nat_cmp q n ≡ o → cond (is_eq o) (Some t) (get ts q) ≡ get ts q
    here q Less is = refl
    here q Equal is = sym there ∙ ap (get ts) (sym (names_exact q n is))
    here q Greater is = refl

-- the tree that was put
pub put_there : (ts : NamedTrees) (n : Text) (t : Tree) → t ≡ tree_at (insert ts n t) n
put_there ts n t = sym (ap (λ o. unwrap_or o empty) (get-insert nat_list_cmp_total ts n t n ∙ ap (λ o. cond (is_eq o) (Some t) (get ts n)) (tied_itself nat_list_cmp_total n)))

module _ {S : Type 0} (m : IndexMap Text Tree S) where
  abbrev seen : NamedTrees
  seen = hash_map_of (λ t. t) m

  -- the tree of a name
  pub read : (n : Text) (o : Option Tree) → o ≡ index.get (pointwise nat_eq) m n → (ts : NamedTrees) → seen ≡ ts → o ≡ get ts n
  read n o e ts is = e ∙ hash_found_is_had nat_list_cmp_total (pointwise nat_eq) texts_ties m n ∙ ap (λ ts. get ts n) is

  -- where a name is found, it stands
  pub found_there : (n : Text) (r : Option ℕ) → r ≡ index.index_of (pointwise nat_eq) m n → is_some r ≡ is_some (index.get (pointwise nat_eq) m n)
      → IfSome r (λ i. i < index.index_map_len m) → IfSome r (λ i. slice_get (index.values m) i ≡ index.get (pointwise nat_eq) m n)
      → MatchOption r (index.get (pointwise nat_eq) m n ≡ None) (StandsAt m n)
  found_there n None is some within value = no_value (index.get (pointwise nat_eq) m n) some
    where
      no_value : (o : Option Tree) → false ≡ is_some o → o ≡ None
      no_value None e = refl
      no_value (Some t) e = absurd (cc)
  found_there n (Some i) is some within value = (within, name_there n (index.keys m) i (sym is), value)

  -- a name that has none
  pub none_read : (n : Text) → index.get (pointwise nat_eq) m n ≡ None → (ts : NamedTrees) → seen ≡ ts → empty ≡ tree_at ts n
  none_read n e ts is = ap (λ o. unwrap_or o empty) (read n None (sym e) ts is)

  module _ (i : ℕ) (n : Text) (v w : Tree) (unique : IsUnique (pointwise nat_eq) m) (at : StandsAt m n i) (value : slice_get (index.values m) i ≡ Some v) where
    -- a tree that was written in place of one
    pub written : hash_map_of (λ t. t) (with_value_at m i w) ≡ insert seen n w
    written =
        insert-hash_map_of nat_list_cmp_total (pointwise nat_eq) texts_ties (λ t. t) names_exact m (with_value_at m i w) n w
        (updates-with_value_at m i w nat_list_eq_equiv unique n v (entry_at m.entries i n v at.1 value))

    module _ (ts : NamedTrees) (is : seen ≡ ts) where
      had : get ts n ≡ Some v
      had = sym (read n (Some v) (sym value ∙ at.2) ts is)

      -- a value that a node was given
      pub put_at : (k : List Text) (x : Text) → w ≡ insert v k x → hash_map_of (λ t. t) (with_value_at m i w) ≡ insert ts n (insert (tree_at ts n) k x)
      put_at k x e = written ∙ ap (λ ts. insert ts n w) is ∙ ap (insert ts n) (e ∙ ap (λ o. insert (unwrap_or o empty) k x) (sym had))

      -- what was there is written back
      pub kept : w ≡ v → hash_map_of (λ t. t) (with_value_at m i w) ≡ ts
      kept e = written ∙ ap (λ ts. insert ts n w) is ∙ ap (insert ts n) e ∙ insert_kept ts n v had

      -- ---- the texts of a node and of those below it are taken

      abbrev others : NamedTrees → NamedTrees
      others us = retain_keys us (λ q. not (text_eq n q))

      tidy_is : (b : Bool) → is_bare w ≡ b → cond b (others (insert ts n w)) (insert ts n w) ≡ tidied_at n (insert ts n w)
      tidy_is b e = ap (λ b. cond b (others (insert ts n w)) (insert ts n w)) (sym e ∙ ap is_bare (put_there ts n w))

      kill_is : (k : List Text) → w ≡ without v k → tidied_at n (insert ts n w) ≡ kill_at n k (get ts n) ts
      kill_is k e = ap (λ t. tidied_at n (insert ts n t)) e ∙ ap (λ o. kill_at n k o ts) (sym had)

      -- other texts are left
      pub some_left : (k : List Text) → w ≡ without v k → is_bare w ≡ false → hash_map_of (λ t. t) (with_value_at m i w) ≡ kill_at n k (get ts n) ts
      some_left k e left = written ∙ ap (λ ts. insert ts n w) is ∙ tidy_is false left ∙ kill_is k e

      name_goes : (p : IndexMap Text Tree S) (r : Option (Text × Tree)) → option_map (λ e. e.0) r ≡ Some n → IfSome r (λ e. Updates (pointwise nat_eq) (with_value_at m i w) p e.0 None)
          → Updates (pointwise nat_eq) (with_value_at m i w) p n None
      name_goes p None first u = absurd (cc)
      name_goes p (Some e) first u = let same : e.0 ≡ n = cc in subst (λ q. Updates (pointwise nat_eq) (with_value_at m i w) p q None) same u

      -- no text is left, and the name goes
      pub none_left : (k : List Text) → w ≡ without v k → is_bare w ≡ true → (p : IndexMap Text Tree S) (r : Option (Text × Tree)) → r ≡ slice_get (with_value_at m i w).entries i
          → IfSome r (λ e. Updates (pointwise nat_eq) (with_value_at m i w) p e.0 None) → hash_map_of (λ t. t) p ≡ kill_at n k (get ts n) ts
      none_left k e bare p r removed u =
          let taken : option_map (λ e. e.0) r ≡ Some n =
          ap (option_map (λ e. e.0)) removed ∙ sym (slice_get-map (λ e. e.0) (with_value_at m i w).entries i) ∙ ap (λ ks. slice_get ks i) (keys-with_value_at m i w) ∙ at.1 in
          dropped (with_value_at m i w) p n (name_goes p r taken u) ∙ ap others (written ∙ ap (λ ts. insert ts n w) is) ∙ tidy_is true bare ∙ kill_is k e

  -- a new name
  pub added : (p : IndexMap Text Tree S) (q n : Text) (t : Tree) → Updates (pointwise nat_eq) m p q (Some t) → q ≡ n → (ts : NamedTrees) → seen ≡ ts → hash_map_of (λ t. t) p ≡ insert ts n t
  added p q n t u same ts is =
      insert-hash_map_of nat_list_cmp_total (pointwise nat_eq) texts_ties (λ t. t) names_exact m p n t (subst (λ q. Updates (pointwise nat_eq) m p q (Some t)) same u) ∙ ap (λ ts. insert ts n t) is
