-- SPDX-License-Identifier: Apache-2.0
-- What the calls leave of the scopes.
use Rattle.mspec.proofs.SpecWords.{◌≡◌, Bool, true, false, not, cond, ◌&&◌, ◌||◌, List, [], ◌∷◌, Option, Some, None, refl, sym, ap, ◌∙◌, unwrap_or, slice_cmp}
use Rattle.mspec.proofs.SpecWords.{bytes_decides, nat_list_cmp_total, get, empty, retain_keys, get-insert, get-retain_keys, filter, nat_cmp, is_eq, or_right}
use Rattle.mspec.proofs.SpecWords.{Text, Tree, text_eq}
use Rattle.std.proofs.lemmas.List.Folds.{list_any-append}
use Rattle.std.proofs.Math.Bool.{and-true, or-true}
use Rattle.mspec.specs.Scopes.{Scope, Scopes, has, is_among, is_other, linked, tree_in, tree_of, with_tree, hide, hide_others, common, without_level}
use Rattle.mspec.specs.ScopeLaws.{LeavingRestores, TopVariablesStandAlone, NewKeepsBelow, NewHides, NewExceptHides}
use Rattle.mspec.proofs.Basics.{texts_exact}
use Rattle.mspec.proofs.MapCuts.{equal_of}

-- ---- one call

pub leaving_restores : LeavingRestores
leaving_restores s below = (refl, λ bs. refl)

rest_is : (b : Bool) (s t u : Scope) (below other : Scopes) → b ≡ true → without_level (cond b (s ∷ u ∷ below) (t ∷ other)) ≡ u ∷ below
rest_is true s t u below other e = refl
rest_is false s t u below other e = cc

pub top_variables_stand_alone : TopVariablesStandAlone
top_variables_stand_alone s t below n mine = record {
  assigned = λ xs x. rest_is (has s n) _ s t below _ mine;
  killed = λ xs. rest_is (has s n) _ s t below _ mine;
}

pub new_keeps_below : NewKeepsBelow
new_keeps_below s t below names = (refl, refl)

-- ---- names

and_false : (a : Bool) → false ≡ (a && false)
and_false true = refl
and_false false = refl

picked : (a b e r t : Bool) → (e ≡ true → a ≡ b) → r ≡ (b && t) → cond a (e || r) r ≡ (b && (e || t))
picked true true true r t same rest = refl
picked true false true r t same rest = cc (same refl)
picked false true true r t same rest = cc (same refl)
picked false false true r t same rest = rest
picked true b false r t same rest = rest
picked false b false r t same rest = rest

any_cond : (a : Bool) (n m : Text) (names : List Text) → is_among (cond a (m ∷ names) names) n ≡ cond a (text_eq n m || is_among names n) (is_among names n)
any_cond true n m names = refl
any_cond false n m names = refl

-- among the names that pass a test are those that are among all and pass it
among-filter : (p : Text → Bool) (names : List Text) (n : Text) → is_among (filter p names) n ≡ (p n && is_among names n)
among-filter p [] n = and_false (p n)
among-filter p (m ∷ names) n =
    any_cond (p m) n m (filter p names)
    ∙ picked (p m) (p n) (text_eq n m) _ _ (λ e. ap p (sym ((bytes_decides n m).0 e))) (among-filter p names n)

or_split : (a b c : Bool) → ((a || (not (a || b) && c)) || b) ≡ ((a || b) || c)
or_split true b c = refl
or_split false true c = refl
or_split false false true = refl
or_split false false false = refl

pub has-hide : (names : List Text) (s : Scope) (n : Text) → has (hide names s) n ≡ (has s n || is_among names n)
has-hide names s n =
    ap (λ b. b || is_other s.others n) (list_any-append (text_eq n) s.names (filter (λ m. not (has s m)) names))
    ∙ ap (λ b. (is_among s.names n || b) || is_other s.others n) (among-filter (λ m. not (has s m)) names n)
    ∙ or_split (is_among s.names n) (is_other s.others n) (is_among names n)

-- ---- trees

or_empty : (b : Bool) (o : Option Tree) → unwrap_or (cond b o None) empty ≡ cond b (unwrap_or o empty) empty
or_empty true o = refl
or_empty false o = refl

-- the tree of a name, if the trees of names that pass a test are kept
pub tree-retain : (s : Scope) (p : Text → Bool) (n : Text) → unwrap_or (get (retain_keys s.trees p) n) empty ≡ cond (p n) (tree_in s n) empty
tree-retain s p n =
    ap (λ o. unwrap_or o empty) (get-retain_keys s.trees p n (λ x e. ap p (sym (texts_exact n x e)))) ∙ or_empty (p n) (get s.trees n)

pub other-tree : (m n : Text) (t : Tree) (s : Scope) → (m ≡ n → ⊥) → tree_in (with_tree m t s) n ≡ tree_in s n
other-tree m n t s other =
    ap (λ o. unwrap_or o empty) (get-insert nat_list_cmp_total s.trees m t n ∙ here (is_eq (slice_cmp nat_cmp n m)) refl)
  where
    here : (b : Bool) → is_eq (slice_cmp nat_cmp n m) ≡ b → cond b (Some t) (get s.trees n) ≡ get s.trees n
    here true e = absurd (other (sym (texts_exact n m (equal_of _ e))))
    here false e = refl

-- a name that is dropped if its tree is bare
pub bare-names : (m : Text) (s : Scope) (n : Text) (b : Bool) → has (cond b (record s { trees = retain_keys s.trees (λ q. not (text_eq m q)) }) s) n ≡ has s n
bare-names m s n true = refl
bare-names m s n false = refl

pub bare-other : (m n : Text) (s : Scope) → (m ≡ n → ⊥) → (b : Bool) → tree_in (cond b (record s { trees = retain_keys s.trees (λ q. not (text_eq m q)) }) s) n ≡ tree_in s n
bare-other m n s other true = tree-retain s (λ q. not (text_eq m q)) n ∙ here (text_eq m n) refl
  where
    here : (b : Bool) → text_eq m n ≡ b → cond (not b) (tree_in s n) empty ≡ tree_in s n
    here true e = absurd (other ((bytes_decides m n).0 e))
    here false e = refl
bare-other m n s other false = refl

-- ---- NEW

pub by_both : (a b : Bool) (x y z w : Tree) → a ≡ b → (b ≡ true → x ≡ z) → (b ≡ false → y ≡ w) → cond a x y ≡ cond b z w
by_both a true x y z w e f g = ap (λ c. cond c x y) e ∙ f refl
by_both a false x y z w e f g = ap (λ c. cond c x y) e ∙ g refl

or_false : (a b : Bool) → b ≡ false → (a || b) ≡ a
or_false true b e = refl
or_false false b e = e

pub new_hides : NewHides
new_hides s below names n = (
  λ among.
      let mine : has (hide names s) n ≡ true = has-hide names s n ∙ or_right (has s n) (is_among names n) among in
      ap (λ b. cond b (tree_in (hide names s) n) (tree_of below (linked s n))) mine
      ∙ tree-retain s (λ m. not (is_among names m)) n ∙ ap (λ b. cond (not b) (tree_in s n) empty) among,
  λ others.
      by_both _ _ _ _ _ _ (has-hide names s n ∙ or_false (has s n) (is_among names n) others)
      (λ _. tree-retain s (λ m. not (is_among names m)) n ∙ ap (λ b. cond (not b) (tree_in s n) empty) others)
      (λ _. refl),
)

-- those of the names in brackets that the scope had, and all of the others
pub others_among : (names : List Text) (o : Option (List Text)) (n : Text) → is_among names n ≡ true → is_other (Some (common names o)) n ≡ is_other o n
others_among names None n e = ap not e
others_among names (Some old) n e = ap not (among-filter (is_among old) names n ∙ ap (λ b. is_among old n && b) e ∙ and-true (is_among old n))

pub others_else : (names : List Text) (o : Option (List Text)) (n : Text) → is_among names n ≡ false → is_other (Some (common names o)) n ≡ true
others_else names None n e = ap not e
others_else names (Some old) n e = ap not (among-filter (is_among old) names n ∙ ap (λ b. is_among old n && b) e ∙ sym (and_false (is_among old n)))

pub new_except_hides : NewExceptHides
new_except_hides s below names n = (
  λ others.
      let mine : has (hide_others names s) n ≡ true = ap (λ b. is_among s.names n || b) (others_else names s.others n others) ∙ or-true (is_among s.names n) in
      ap (λ b. cond b (tree_in (hide_others names s) n) (tree_of below (linked s n))) mine
      ∙ tree-retain s (is_among names) n ∙ ap (λ b. cond b (tree_in s n) empty) others,
  λ among.
      by_both _ _ _ _ _ _ (ap (λ b. is_among s.names n || b) (others_among names s.others n among))
      (λ _. tree-retain s (is_among names) n ∙ ap (λ b. cond b (tree_in s n) empty) among)
      (λ _. refl),
)
