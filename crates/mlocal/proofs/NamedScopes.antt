-- SPDX-License-Identifier: Apache-2.0
-- Scopes by their names with variables, and the variables of other names.
use Rattle.mlocal.proofs.LocalWords.{◌≡◌, ◌<◌, ◌≤◌, ℕ, Bool, not, List, [], ◌∷◌, ◌++◌, length, Option, Some, None, sym, ap, subst, ◌∙◌}
use Rattle.mlocal.proofs.LocalWords.{get_or, set, filter, unwrap_or, insert, empty, retain_keys, keys_of, Text, Scope, is_among, has, tree_in, with_tree}
use Rattle.mlocal.proofs.LocalWords.{◌||◌, true, is_other, length-keys_of, kill_in, hide, hide_others, emptied, bind, common, Tree, without, NamedTrees}
use Rattle.mlocal.proofs.LocalWords.{tree_at, kill_at, arith}
use Rattle.std.specs.FinMap.{get}
use Rattle.mspec.specs.Scopes.{valued, unset}
use Rattle.mlocal.specs.Named.{trees_of, index_in, spared, without_texts, bound_scope}
use Rattle.mlocal.proofs.NamedTrees.{first_at, keys_set, tree_found, tree_other, put_found, put_other, kill_found, kill_other, keys_spared, kept_spared}
use Rattle.mlocal.proofs.NamedTrees.{keys_append, keys_fresh, not_among, names_hidden, one_unset, one_given, among_at, none_among}
use Rattle.mlocal.proofs.Views.{scope_of, put_seen, kill_seen}

module _ (es : List (Text × Tree)) (o : Option (List Text)) (ls : List (Text × Text)) (ts : NamedTrees) where
  -- the scope of these entries
  abbrev named_scope : List (Text × Tree) → Scope
  named_scope l = scope_of (keys_of l) o ls (trees_of l ts)

  module _ (s : Scope) (view : named_scope es ≡ s) (n : Text) (i : ℕ) (is : i ≡ index_in s n) where
    at : i ≡ first_at n es
    at = is ∙ ap (λ t. index_in t n) (sym view)

    -- ---- whether a name is there

    pub has_named : i < length es → has s n ≡ true
    has_named within =
        ap (λ t. has t n) (sym view)
        ∙ ap (λ b. b || is_other o n) (among_at n (keys_of es) (let len = length-keys_of es in omega (arith, within, at, len)))

    pub has_rest : length es ≤ i → has s n ≡ is_other s.others n
    has_rest past =
        ap (λ t. has t n) (sym view)
        ∙ ap (λ b. b || is_other o n) (none_among n (keys_of es) (let len = length-keys_of es in omega (arith, past, at, len)))
        ∙ ap (λ t. is_other t.others n) view

    -- ---- a name that is there

    module _ (e : Text × Tree) (within : i < length es) (there : e ≡ get_or es i e) where
      pub tree_named : e.1 ≡ tree_in s n
      tree_named =
          subst (λ j. j < length es → e ≡ get_or es j e → e.1 ≡ tree_in s n) (sym at)
          (λ h f. ap (λ d. d.1) f ∙ tree_found es ts n e h ∙ ap (λ t. tree_in t n) view) within there

      module _ (w : Tree) where
        pub put_named : (k : List Text) (x : Text) → w ≡ insert e.1 k x → named_scope (set es i (e.0, w)) ≡ with_tree n (insert (tree_in s n) k x) s
        put_named k x put =
            subst (λ j. j < length es → e ≡ get_or es j e → named_scope (set es j (e.0, w)) ≡ with_tree n (insert (tree_in s n) k x) s) (sym at)
            (λ h f.
            let new = set es (first_at n es) ((get_or es (first_at n es) e).0, w) in
            ap (λ d. named_scope (set es (first_at n es) (d.0, w))) f
            ∙ ap (λ ns. scope_of ns o ls (trees_of new ts)) (keys_set n es e w h)
            ∙ put_seen (keys_of es) o (trees_of es ts) (trees_of new ts) n k x (put_found es ts n e h w k x (put ∙ ap (λ d. insert d.1 k x) f)) s view)
            within there

        pub kill_named : (k : List Text) → w ≡ without e.1 k → named_scope (set es i (e.0, w)) ≡ kill_in n k (get s.trees n) s
        kill_named k gone =
            subst (λ j. j < length es → e ≡ get_or es j e → named_scope (set es j (e.0, w)) ≡ kill_in n k (get s.trees n) s) (sym at)
            (λ h f.
            let new = set es (first_at n es) ((get_or es (first_at n es) e).0, w) in
            ap (λ d. named_scope (set es (first_at n es) (d.0, w))) f
            ∙ ap (λ ns. scope_of ns o ls (trees_of new ts)) (keys_set n es e w h)
            ∙ kill_seen (keys_of es) o (trees_of es ts) (trees_of new ts) n k (kill_found es ts n e h w k (gone ∙ ap (λ d. without d.1 k) f)) s view)
            within there

    -- ---- a name that is not there

    module _ (past : length es ≤ i) where
      beyond : length es ≤ first_at n es
      beyond = subst (λ j. length es ≤ j) at past

      pub tree_rest : (r : Option Tree) → r ≡ get ts n → unwrap_or r empty ≡ tree_in s n
      tree_rest r found = ap (λ q. unwrap_or q empty) (found ∙ tree_other es ts n beyond) ∙ ap (λ t. tree_in t n) view

      pub put_rest : (us : NamedTrees) (k : List Text) (x : Text) → us ≡ insert ts n (insert (tree_at ts n) k x)
          → scope_of (keys_of es) o ls (trees_of es us) ≡ with_tree n (insert (tree_in s n) k x) s
      put_rest us k x put = put_seen (keys_of es) o (trees_of es ts) (trees_of es us) n k x (put_other es ts n beyond us k x put) s view

      pub kill_rest : (us : NamedTrees) (k : List Text) → us ≡ kill_at n k (get ts n) ts
          → scope_of (keys_of es) o ls (trees_of es us) ≡ kill_in n k (get s.trees n) s
      kill_rest us k gone = kill_seen (keys_of es) o (trees_of es ts) (trees_of es us) n k (kill_other es ts n beyond us k gone) s view

  -- ---- texts of many variables are taken

  module _ (s : Scope) (view : named_scope es ≡ s) (new : List (Text × Tree)) (us : NamedTrees) where
    pub emptied_named : (p : Text → Bool) → new ≡ spared p es → us ≡ retain_keys ts p → scope_of (keys_of new) o ls (trees_of new us) ≡ emptied p s
    emptied_named p entries rest =
        (λ j. scope_of (keys_of (entries j)) o ls (trees_of (entries j) (rest j)))
        ∙ (λ j. scope_of (keys_spared p es j) o ls (kept_spared p es ts j))
        ∙ ap (emptied p) view

    names_more : (names : List Text) (r : Text → Bool)
        → keys_of (spared (not_among names) (es ++ without_texts (filter r names))) ≡ keys_of es ++ filter r names
    names_more names r =
        keys_spared (not_among names) (es ++ without_texts (filter r names)) ∙ keys_append es (without_texts (filter r names))
        ∙ ap (λ l. keys_of es ++ l) (keys_fresh (filter r names))

    pub hidden_named : (names : List Text) (fresh : List (Text × Tree)) → fresh ≡ without_texts (filter (λ n. not (has s n)) names)
        → new ≡ spared (not_among names) (es ++ fresh) → us ≡ retain_keys ts (not_among names) → scope_of (keys_of new) o ls (trees_of new us) ≡ hide names s
    hidden_named names fresh fresh_are entries rest =
        let lacks : Text → Bool = λ n. not (has s n) in
        let both : new ≡ spared (not_among names) (es ++ without_texts (filter lacks names)) = entries ∙ ap (λ l. spared (not_among names) (es ++ l))
        fresh_are in
        (λ j. scope_of (keys_of (both j)) o ls (trees_of (both j) (rest j)))
        ∙ (λ j. scope_of (names_more names lacks j) o ls (names_hidden lacks names es ts j))
        ∙ ap {A = Scope} (λ t. record t { names = t.names ++ filter lacks names; trees = retain_keys t.trees (not_among names) }) view

    pub others_named : (names : List Text) (o' : Option (List Text)) → o' ≡ Some (common names o) → new ≡ spared (is_among names) es
        → us ≡ retain_keys ts (is_among names)
        → scope_of (keys_of new) o' ls (trees_of new us) ≡ hide_others names s
    others_named names o' others entries rest =
        (λ j. scope_of (keys_of (entries j)) (others j) ls (trees_of (entries j) (rest j)))
        ∙ (λ j. scope_of (keys_spared (is_among names) es j) (Some (common names o)) ls (kept_spared (is_among names) es ts j))
        ∙ ap (hide_others names) view

-- ---- formal parameters

module _ (es : List (Text × Tree)) (ls : List (Text × Text)) (n : Text) where
  pub bound_unset : (w : Tree) → w ≡ empty → bound_scope (es ++ (n, w) ∷ []) ls ≡ bind n unset (bound_scope es ls)
  bound_unset w is =
      ap (λ t. bound_scope (es ++ (n, t) ∷ []) ls) is
      ∙ (λ j. record { names = keys_append es ((n, empty) ∷ []) j; others = None; trees = one_unset es n j; links = ls })

  module _ (x : Text) (i : ℕ) (at : i ≡ first_at n es) (w : Tree) where
    -- a name that is new
    pub bound_new : length es ≤ i → w ≡ insert empty [] x → bound_scope (es ++ (n, w) ∷ []) ls ≡ bind n (valued x) (bound_scope es ls)
    bound_new past is =
        ap (λ t. bound_scope (es ++ (n, t) ∷ []) ls) is
        ∙ (λ j. record {
          names = keys_append es ((n, insert empty [] x) ∷ []) j;
          others = None;
          trees = one_given es n x (subst (λ j. length es ≤ j) at past) j;
          links = ls;
        })

    -- one that an entry has
    pub bound_again : (e : Text × Tree) (v : Tree) → i < length es → e ≡ get_or es i e → w ≡ empty → v ≡ insert e.1 [] x
        → bound_scope (set es i (e.0, v) ++ (n, w) ∷ []) ls ≡ bind n (valued x) (bound_scope es ls)
    bound_again e v within there is put =
        subst (λ j. j < length es → e ≡ get_or es j e → bound_scope (set es j (e.0, v) ++ (n, w) ∷ []) ls ≡ bind n (valued x) (bound_scope es ls)) (sym at)
        (λ h f.
        let new = set es (first_at n es) ((get_or es (first_at n es) e).0, v) in
        (λ j. bound_scope (set es (first_at n es) ((f j).0, v) ++ (n, is j) ∷ []) ls)
        ∙ (λ j. record { names = keys_append new ((n, empty) ∷ []) j; others = None; trees = one_unset new n j; links = ls })
        ∙ (λ j. record {
          names = keys_set n es e v h j ++ n ∷ [];
          others = None;
          trees = put_found es empty n e h v [] x (put ∙ ap (λ d. insert d.1 [] x) f) j;
          links = ls;
        }))
        within there
