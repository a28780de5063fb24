-- SPDX-License-Identifier: Apache-2.0
-- The names of a scope with their variables, over the variables of other names: what is read and written by the index of a name.
use Rattle.mlocal.proofs.LocalWords.{◌≡◌, ◌<◌, ◌≤◌, ℕ, suc, Bool, true, false, not, cond, List, [], ◌∷◌, ◌++◌, length, Option, Some, None, refl, sym, ap, ◌∙◌}
use Rattle.mlocal.proofs.LocalWords.{arith, subst, get_or, set, filter, unwrap_or, option_map, option_or, is_some, texts_ties, nat_list_cmp_total}
use Rattle.mlocal.proofs.LocalWords.{nat_list_eq_equiv, insert, empty, retain_keys, entries, get-insert, get-empty, get-retain_keys, len-entries, same_map}
use Rattle.mlocal.proofs.LocalWords.{keys_of, lookup, length-keys_of, Text, is_among, is_bare, Tree, text_eq, without, NamedTrees, tree_at, kill_at}
use Rattle.mlocal.proofs.LocalWords.{subscripts_cmp, significant_digits, subscripts_cmp_total, subscripts_cmp_exact, is_within, ◌||◌, ◌+◌, drop}
use Rattle.mlocal.proofs.LocalWords.{drop-cons}
use Rattle.mlocal.proofs.LocalWords.{add-one, drop_all}
use Rattle.std.proofs.lemmas.Bool.{eqb-true}
use Rattle.std.proofs.lemmas.Map.{lookup-set_value, keys-set_value}
use Rattle.std.specs.FinMap.{get, empty_of_len}
use Rattle.std.specs.List.{position_or_len}
use Rattle.std.specs.Map.{set_value}
use Rattle.mspec.proofs.ComputedMaps.{no_trees_cut}
use Rattle.mlocal.specs.Named.{trees_of, spared, without_texts, AreFresh}
use Rattle.mlocal.proofs.Bare.{empty_bare, given_text}
use Rattle.mlocal.proofs.Own.{retained}
use Rattle.mlocal.proofs.Tables.{same_name, put_there}
use Rattle.mlocal.proofs.Views.{names_exact}
use Rattle.mlocal.proofs.Walks.{or_none}

-- ---- trees without a text

-- a tree as a scope has it
abbrev pub shown_tree : Tree → Option Tree
shown_tree t = cond (is_bare t) None (Some t)

bare_empty : (t : Tree) → is_bare t ≡ true → t ≡ empty
bare_empty t e = empty_of_len t (len-entries t ∙ sym (length-keys_of (entries t)) ∙ eqb-true (length (keys_of (entries t))) 0 e)

tree_back : (t : Tree) → unwrap_or (shown_tree t) empty ≡ t
tree_back t = here (is_bare t) refl
  where
    here : (b : Bool) → is_bare t ≡ b → unwrap_or (cond b None (Some t)) empty ≡ t
    here true e = sym (bare_empty t e)
    here false e = refl

shown_empty : shown_tree empty ≡ None
shown_empty = ap (λ b. cond b None (Some empty)) (sym empty_bare)

shown_given : (t : Tree) (k : List Text) (x : Text) → shown_tree (insert t k x) ≡ Some (insert t k x)
shown_given t k x = ap (λ b. cond b None (Some (insert t k x))) (sym (given_text t k x))

no_choice : {A : Type 0} (b : Bool) (x : A) → cond b x x ≡ x
no_choice true x = refl
no_choice false x = refl

none_without : (k : List Text) → without empty k ≡ empty
none_without k = same_map (subscripts_cmp_total significant_digits) (subscripts_cmp_exact significant_digits) _ _ (λ q.
    retained empty k q ∙ ap (λ o. cond (not (is_within k q)) o None) (get-empty (subscripts_cmp significant_digits) q)
    ∙ no_choice (not (is_within k q)) None ∙ sym (get-empty (subscripts_cmp significant_digits) q))

-- ---- what maps of names have

by_names : (us vs : NamedTrees) → ((q : Text) → get us q ≡ get vs q) → us ≡ vs
by_names us vs h = same_map nat_list_cmp_total names_exact us vs h

get_retained : (us : NamedTrees) (p : Text → Bool) (q : Text) → get (retain_keys us p) q ≡ cond (p q) (get us q) None
get_retained us p q = get-retain_keys us p q (λ x e. ap p (sym (names_exact q x e)))

flip : (b : Bool) (o : Option Tree) → cond (not b) o None ≡ cond b None o
flip true o = refl
flip false o = refl

get_without : (us : NamedTrees) (n q : Text) → get (retain_keys us (λ m. not (text_eq n m))) q ≡ cond (text_eq q n) None (get us q)
get_without us n q =
    get_retained us (λ m. not (text_eq n m)) q ∙ ap (λ b. cond (not b) (get us q) None) (nat_list_eq_equiv.symm n q) ∙ flip (text_eq q n) (get us q)

get_put : (us : NamedTrees) (n : Text) (t : Tree) (q : Text) → get (insert us n t) q ≡ cond (text_eq q n) (Some t) (get us q)
get_put us n t q = get-insert nat_list_cmp_total us n t q ∙ ap (λ b. cond b (Some t) (get us q)) (sym (texts_ties q n))

-- what KILL leaves of a tree
abbrev killed_tree : List Text → Option Tree → Option Tree
killed_tree k None = None
killed_tree k (Some t) = shown_tree (without t k)

twice_none : (b : Bool) (t : Tree) (o : Option Tree) → cond b None (cond b (Some t) o) ≡ cond b None o
twice_none true t o = refl
twice_none false t o = refl

get_killed : (us : NamedTrees) (n : Text) (k : List Text) (q : Text)
    → get (kill_at n k (get us n) us) q ≡ cond (text_eq q n) (killed_tree k (get us n)) (get us q)
get_killed us n k q = here (get us n) refl
  where
    lacks : (b : Bool) → text_eq q n ≡ b → get us n ≡ None → get us q ≡ cond b None (get us q)
    lacks true same none = ap (get us) (same_name q n same) ∙ none
    lacks false same none = refl

    tidy : (w : Tree) (b : Bool)
        → get (cond b (retain_keys (insert us n w) (λ m. not (text_eq n m))) (insert us n w)) q ≡ cond (text_eq q n) (cond b None (Some w)) (get us q)
    tidy w true = get_without (insert us n w) n q ∙ ap (cond (text_eq q n) None) (get_put us n w q) ∙ twice_none (text_eq q n) w (get us q)
    tidy w false = get_put us n w q

    here : (o : Option Tree) → get us n ≡ o → get (kill_at n k o us) q ≡ cond (text_eq q n) (killed_tree k o) (get us q)
    here None e = lacks (text_eq q n) refl e
    here (Some t) e =
        let w = without t k in
        ap (λ v. get (cond (is_bare v) (retain_keys (insert us n w) (λ m. not (text_eq n m))) (insert us n w)) q) (sym (put_there us n w)) ∙ tidy w (is_bare w)

-- ---- the first entry of a name

-- a name's tree, before what other names have
abbrev seen : Option Tree → Option Tree → Option Tree
seen None o = o
seen (Some t) o = shown_tree t

get_named : (es : List (Text × Tree)) (ts : NamedTrees) (q : Text) → get (trees_of es ts) q ≡ seen (lookup (text_eq q) es) (get ts q)
get_named [] ts q = refl
get_named (e ∷ es) ts q = here (is_bare e.1) refl (get_named es ts q) ∙ chosen (text_eq q e.0)
  where
    chosen : (t : Bool) → cond t (shown_tree e.1) (seen (lookup (text_eq q) es) (get ts q)) ≡ seen (cond t (Some e.1) (lookup (text_eq q) es)) (get ts q)
    chosen true = refl
    chosen false = refl

    here : (b : Bool) → is_bare e.1 ≡ b → get (trees_of es ts) q ≡ seen (lookup (text_eq q) es) (get ts q)
        → get (cond b (retain_keys (trees_of es ts) (λ m. not (text_eq e.0 m))) (insert (trees_of es ts) e.0 e.1)) q
        ≡ cond (text_eq q e.0) (shown_tree e.1) (seen (lookup (text_eq q) es) (get ts q))
    here true is rest =
        get_without (trees_of es ts) e.0 q ∙ ap (cond (text_eq q e.0) None) rest
        ∙ ap (λ x. cond (text_eq q e.0) x (seen (lookup (text_eq q) es) (get ts q))) (sym (ap (λ b. cond b None (Some e.1)) is))
    here false is rest =
        get_put (trees_of es ts) e.0 e.1 q ∙ ap (cond (text_eq q e.0) (Some e.1)) rest
        ∙ ap (λ x. cond (text_eq q e.0) x (seen (lookup (text_eq q) es) (get ts q))) (sym (ap (λ b. cond b None (Some e.1)) is))

abbrev pub first_at : Text → List (Text × Tree) → ℕ
first_at n es = position_or_len (text_eq n) (keys_of es)

plus_one : (n : ℕ) → 1 + n ≡ suc n
plus_one n = let turn : 1 + n ≡ n + 1 = omega arith in turn ∙ add-one n

first_set : (n : Text) (es : List (Text × Tree)) (d : Text × Tree) (w : Tree) → first_at n es < length es
    → set es (first_at n es) ((get_or es (first_at n es) d).0, w) ≡ set_value (text_eq n) es w
first_set n [] d w h = absurd (omega arith)
first_set n (e ∷ es) d w h = here (text_eq n e.0) h (first_set n es d w)
  where
    here : (b : Bool) → cond (not b) (1 + first_at n es) 0 < suc (length es)
        → (first_at n es < length es → set es (first_at n es) ((get_or es (first_at n es) d).0, w) ≡ set_value (text_eq n) es w)
        → set (e ∷ es) (cond (not b) (1 + first_at n es) 0) ((get_or (e ∷ es) (cond (not b) (1 + first_at n es) 0) d).0, w) ≡ cond b ((e.0, w) ∷ es)
        (e ∷ set_value (text_eq n) es w)
    here true h rest = refl
    here false h rest =
        ap (λ k. set (e ∷ es) k ((get_or (e ∷ es) k d).0, w)) (plus_one (first_at n es)) ∙ ap (λ l. e ∷ l) (rest (omega (arith, h)))

first_value : (n : Text) (es : List (Text × Tree)) (d : Text × Tree) → first_at n es < length es → lookup (text_eq n) es ≡ Some (get_or es (first_at n es) d).1
first_value n [] d h = absurd (omega arith)
first_value n (e ∷ es) d h = here (text_eq n e.0) h (first_value n es d)
  where
    here : (b : Bool) → cond (not b) (1 + first_at n es) 0 < suc (length es)
        → (first_at n es < length es → lookup (text_eq n) es ≡ Some (get_or es (first_at n es) d).1)
        → cond b (Some e.1) (lookup (text_eq n) es) ≡ Some (get_or (e ∷ es) (cond (not b) (1 + first_at n es) 0) d).1
    here true h rest = refl
    here false h rest = rest (omega (arith, h)) ∙ sym (ap (λ k. Some (get_or (e ∷ es) k d).1) (plus_one (first_at n es)))

first_none : (n : Text) (es : List (Text × Tree)) → length es ≤ first_at n es → lookup (text_eq n) es ≡ None
first_none n [] h = refl
first_none n (e ∷ es) h = here (text_eq n e.0) h (first_none n es)
  where
    here : (b : Bool) → suc (length es) ≤ cond (not b) (1 + first_at n es) 0 → (length es ≤ first_at n es → lookup (text_eq n) es ≡ None)
        → cond b (Some e.1) (lookup (text_eq n) es) ≡ None
    here true h rest = absurd (omega (arith, h))
    here false h rest = rest (omega (arith, h))

-- whether a name is there
pub among_at : (n : Text) (ns : List Text) → position_or_len (text_eq n) ns < length ns → is_among ns n ≡ true
among_at n [] h = absurd (omega (arith, h))
among_at n (m ∷ ns) h = here (text_eq n m) h (among_at n ns)
  where
    here : (b : Bool) → cond (not b) (1 + position_or_len (text_eq n) ns) 0 < suc (length ns)
        → (position_or_len (text_eq n) ns < length ns → is_among ns n ≡ true) → (b || is_among ns n) ≡ true
    here true h rest = refl
    here false h rest = rest (omega (arith, h))

pub none_among : (n : Text) (ns : List Text) → length ns ≤ position_or_len (text_eq n) ns → is_among ns n ≡ false
none_among n [] h = refl
none_among n (m ∷ ns) h = here (text_eq n m) h (none_among n ns)
  where
    here : (b : Bool) → suc (length ns) ≤ cond (not b) (1 + position_or_len (text_eq n) ns) 0
        → (length ns ≤ position_or_len (text_eq n) ns → is_among ns n ≡ false) → (b || is_among ns n) ≡ false
    here true h rest = absurd (omega (arith, h))
    here false h rest = rest (omega (arith, h))

-- the names stay
pub keys_set : (n : Text) (es : List (Text × Tree)) (d : Text × Tree) (w : Tree) → first_at n es < length es
    → keys_of (set es (first_at n es) ((get_or es (first_at n es) d).0, w)) ≡ keys_of es
keys_set n es d w h = ap keys_of (first_set n es d w h) ∙ keys-set_value (text_eq n) es w

chosen_first : (b : Bool) (w : Tree) (l o : Option Tree) → seen (cond b (Some w) l) o ≡ cond b (shown_tree w) (seen l o)
chosen_first true w l o = refl
chosen_first false w l o = refl

module _ (es : List (Text × Tree)) (ts : NamedTrees) (n : Text) where
  abbrev all : NamedTrees
  all = trees_of es ts

  -- ---- a name that is there

  module _ (d : Text × Tree) (within : first_at n es < length es) where
    abbrev entry : Text × Tree
    entry = get_or es (first_at n es) d

    tree_had : get all n ≡ shown_tree entry.1
    tree_had = get_named es ts n ∙ ap (λ o. seen o (get ts n)) (first_value n es d within)

    pub tree_found : entry.1 ≡ tree_at all n
    tree_found = sym (ap (λ o. unwrap_or o empty) tree_had ∙ tree_back entry.1)

    module _ (w : Tree) where
      abbrev new : List (Text × Tree)
      new = set es (first_at n es) (entry.0, w)

      changed : (q : Text) → get (trees_of new ts) q ≡ cond (text_eq q n) (shown_tree w) (get all q)
      changed q =
          ap (λ l. get (trees_of l ts) q) (first_set n es d w within) ∙ get_named (set_value (text_eq n) es w) ts q
          ∙ ap (λ o. seen o (get ts q)) (lookup-set_value nat_list_eq_equiv (text_eq n) (nat_list_eq_equiv.congr n) q w es
          (ap is_some (first_value n es d within))
          ∙ ap (λ b. cond b (Some w) (lookup (text_eq q) es)) (nat_list_eq_equiv.symm n q))
          ∙ chosen_first (text_eq q n) w (lookup (text_eq q) es) (get ts q)
          ∙ ap (cond (text_eq q n) (shown_tree w)) (sym (get_named es ts q))

      pub put_found : (k : List Text) (x : Text) → w ≡ insert entry.1 k x → trees_of new ts ≡ insert all n (insert (tree_at all n) k x)
      put_found k x e = by_names _ _ (λ q.
          changed q
          ∙ ap (λ o. cond (text_eq q n) o (get all q)) (ap shown_tree e ∙ shown_given entry.1 k x ∙ ap (λ t. Some (insert t k x)) tree_found)
          ∙ sym (get_put all n (insert (tree_at all n) k x) q))

      left : (k : List Text) → shown_tree (without entry.1 k) ≡ killed_tree k (shown_tree entry.1)
      left k = here (is_bare entry.1) refl
        where
          here : (b : Bool) → is_bare entry.1 ≡ b → shown_tree (without entry.1 k) ≡ killed_tree k (cond b None (Some entry.1))
          here true e = ap (λ t. shown_tree (without t k)) (bare_empty entry.1 e) ∙ ap shown_tree (none_without k) ∙ shown_empty
          here false e = refl

      pub kill_found : (k : List Text) → w ≡ without entry.1 k → trees_of new ts ≡ kill_at n k (get all n) all
      kill_found k e = by_names _ _ (λ q.
          changed q
          ∙ ap (λ o. cond (text_eq q n) o (get all q)) (ap shown_tree e ∙ left k ∙ ap (killed_tree k) (sym tree_had))
          ∙ sym (get_killed all n k q))

  -- ---- a name that is not there

  module _ (without_entry : length es ≤ first_at n es) where
    pub tree_other : get ts n ≡ get all n
    tree_other = sym (get_named es ts n ∙ ap (λ o. seen o (get ts n)) (first_none n es without_entry))

    other_changed : (us : NamedTrees) (o : Option Tree) → ((q : Text) → get us q ≡ cond (text_eq q n) o (get ts q)) → (q : Text)
        → get (trees_of es us) q ≡ cond (text_eq q n) o (get all q)
    other_changed us o h q =
        get_named es us q ∙ ap (seen (lookup (text_eq q) es)) (h q) ∙ here (text_eq q n) refl ∙ ap (cond (text_eq q n) o) (sym (get_named es ts q))
      where
        here : (b : Bool) → text_eq q n ≡ b → seen (lookup (text_eq q) es) (cond b o (get ts q)) ≡ cond b o (seen (lookup (text_eq q) es) (get ts q))
        here true e = ap (λ l. seen l o) (ap (λ m. lookup (text_eq m) es) (same_name q n e) ∙ first_none n es without_entry)
        here false e = refl

    pub put_other : (us : NamedTrees) (k : List Text) (x : Text) → us ≡ insert ts n (insert (tree_at ts n) k x)
        → trees_of es us ≡ insert all n (insert (tree_at all n) k x)
    put_other us k x e = by_names _ _ (λ q.
        other_changed us (Some (insert (tree_at ts n) k x)) (λ r. ap (λ vs. get vs r) e ∙ get_put ts n (insert (tree_at ts n) k x) r) q
        ∙ ap (λ o. cond (text_eq q n) (Some (insert (unwrap_or o empty) k x)) (get all q)) tree_other
        ∙ sym (get_put all n (insert (tree_at all n) k x) q))

    pub kill_other : (us : NamedTrees) (k : List Text) → us ≡ kill_at n k (get ts n) ts → trees_of es us ≡ kill_at n k (get all n) all
    kill_other us k e = by_names _ _ (λ q.
        other_changed us (killed_tree k (get ts n)) (λ r. ap (λ vs. get vs r) e ∙ get_killed ts n k r) q
        ∙ ap (λ o. cond (text_eq q n) (killed_tree k o) (get all q)) tree_other
        ∙ sym (get_killed all n k q))

-- ---- texts of many variables are taken

pub keys_spared : (p : Text → Bool) (es : List (Text × Tree)) → keys_of (spared p es) ≡ keys_of es
keys_spared p [] = refl
keys_spared p (e ∷ es) = ap (λ l. e.0 ∷ l) (keys_spared p es)

lookup_spared : (p : Text → Bool) (es : List (Text × Tree)) (q : Text)
    → lookup (text_eq q) (spared p es) ≡ option_map (λ t. cond (p q) t empty) (lookup (text_eq q) es)
lookup_spared p [] q = refl
lookup_spared p (e ∷ es) q = here (text_eq q e.0) refl (lookup_spared p es q)
  where
    here : (b : Bool) → text_eq q e.0 ≡ b → lookup (text_eq q) (spared p es) ≡ option_map (λ t. cond (p q) t empty) (lookup (text_eq q) es)
        → cond b (Some (cond (p e.0) e.1 empty)) (lookup (text_eq q) (spared p es)) ≡ option_map (λ t. cond (p q) t empty)
        (cond b (Some e.1) (lookup (text_eq q) es))
    here true same rest = ap (λ m. Some (cond (p m) e.1 empty)) (sym (same_name q e.0 same))
    here false same rest = rest

both_kept : (l o : Option Tree) (b : Bool) → seen (option_map (λ t. cond b t empty) l) (cond b o None) ≡ cond b (seen l o) None
both_kept None o b = refl
both_kept (Some t) o true = refl
both_kept (Some t) o false = shown_empty

pub kept_spared : (p : Text → Bool) (es : List (Text × Tree)) (ts : NamedTrees) → trees_of (spared p es) (retain_keys ts p) ≡ retain_keys (trees_of es ts) p
kept_spared p es ts = by_names _ _ (λ q.
    get_named (spared p es) (retain_keys ts p) q
    ∙ ap (λ l. seen l (get (retain_keys ts p) q)) (lookup_spared p es q)
    ∙ ap (seen (option_map (λ t. cond (p q) t empty) (lookup (text_eq q) es))) (get_retained ts p q)
    ∙ both_kept (lookup (text_eq q) es) (get ts q) (p q)
    ∙ ap (λ o. cond (p q) o None) (sym (get_named es ts q))
    ∙ sym (get_retained (trees_of es ts) p q))

-- ---- more names

pub trees_append : (es fs : List (Text × Tree)) (ts : NamedTrees) → trees_of (es ++ fs) ts ≡ trees_of es (trees_of fs ts)
trees_append [] fs ts = refl
trees_append (e ∷ es) fs ts = ap (λ us. cond (is_bare e.1) (retain_keys us (λ m. not (text_eq e.0 m))) (insert us e.0 e.1)) (trees_append es fs ts)

pub keys_append : (es fs : List (Text × Tree)) → keys_of (es ++ fs) ≡ keys_of es ++ keys_of fs
keys_append [] fs = refl
keys_append (e ∷ es) fs = ap (λ l. e.0 ∷ l) (keys_append es fs)

pub keys_fresh : (ns : List Text) → keys_of (without_texts ns) ≡ ns
keys_fresh [] = refl
keys_fresh (n ∷ ns) = ap (λ l. n ∷ l) (keys_fresh ns)

pub are_fresh : (ns : List Text) → AreFresh (without_texts ns)
are_fresh ns = ap without_texts (keys_fresh ns)

names_spared : (p : Text → Bool) (ns : List Text) → spared p (without_texts ns) ≡ without_texts ns
names_spared p [] = refl
names_spared p (n ∷ ns) = ap (λ t. (n, t) ∷ spared p (without_texts ns)) (no_choice (p n) empty) ∙ ap (λ l. (n, empty) ∷ l) (names_spared p ns)

pub fresh_spared : (p : Text → Bool) (fs : List (Text × Tree)) → AreFresh fs → fs ≡ spared p fs
fresh_spared p fs fresh = subst (λ l. l ≡ spared p l) fresh (sym (names_spared p (keys_of fs)))

pub fresh_from : (ns : List Text) (fs : List (Text × Tree)) → fs ≡ without_texts ns → AreFresh fs
fresh_from ns fs is = subst AreFresh (sym is) (are_fresh ns)

lookup_append : (es fs : List (Text × Tree)) (q : Text) → lookup (text_eq q) (es ++ fs) ≡ option_or (lookup (text_eq q) es) (lookup (text_eq q) fs)
lookup_append [] fs q = refl
lookup_append (e ∷ es) fs q = here (text_eq q e.0) (lookup_append es fs q)
  where
    here : (b : Bool) → lookup (text_eq q) (es ++ fs) ≡ option_or (lookup (text_eq q) es) (lookup (text_eq q) fs)
        → cond b (Some e.1) (lookup (text_eq q) (es ++ fs)) ≡ option_or (cond b (Some e.1) (lookup (text_eq q) es)) (lookup (text_eq q) fs)
    here true rest = refl
    here false rest = rest

none_fresh : (r : Text → Bool) (names : List Text) (q : Text) → is_among names q ≡ false → lookup (text_eq q) (without_texts (filter r names)) ≡ None
none_fresh r [] q lacks = refl
none_fresh r (n ∷ names) q lacks = here (r n) (text_eq q n) refl lacks (none_fresh r names q)
  where
    here : (b c : Bool) → text_eq q n ≡ c → (c || is_among names q) ≡ false
        → (is_among names q ≡ false → lookup (text_eq q) (without_texts (filter r names)) ≡ None)
        → lookup (text_eq q) (without_texts (cond b (n ∷ filter r names) (filter r names))) ≡ None
    here b true is lacks rest = absurd (cc)
    here true false is lacks rest = ap (λ c. cond c (Some empty) (lookup (text_eq q) (without_texts (filter r names)))) is ∙ rest lacks
    here false false is lacks rest = rest lacks

abbrev pub not_among : List Text → Text → Bool
not_among names n = not (is_among names n)

-- names that have no text, and take the texts of their old variables with them
module _ (r : Text → Bool) (names : List Text) (es : List (Text × Tree)) (ts : NamedTrees) where
  abbrev more : List (Text × Tree)
  more = es ++ without_texts (filter r names)

  left_alone : (q : Text) (b : Bool) → is_among names q ≡ b → cond (not b) (get (trees_of more ts) q) None ≡ cond (not b) (get (trees_of es ts) q) None
  left_alone q true is = refl
  left_alone q false is =
      get_named more ts q
      ∙ ap (λ l. seen l (get ts q)) (lookup_append es (without_texts (filter r names)) q ∙ ap (option_or (lookup (text_eq q) es)) (none_fresh r names q is)
      ∙ or_none (lookup (text_eq q) es))
      ∙ sym (get_named es ts q)

  pub names_hidden : trees_of (spared (not_among names) more) (retain_keys ts (not_among names)) ≡ retain_keys (trees_of es ts) (not_among names)
  names_hidden =
      kept_spared (not_among names) more ts
      ∙ by_names _ _ (λ q. get_retained (trees_of more ts) (not_among names) q ∙ left_alone q (is_among names q) refl
      ∙ sym (get_retained (trees_of es ts) (not_among names) q))

-- one more name without a text
none_more : (n : Text) → trees_of ((n, empty) ∷ []) empty ≡ empty
none_more n = ap (λ b. cond b (retain_keys empty (λ m. not (text_eq n m))) (insert empty n empty)) (sym empty_bare) ∙ no_trees_cut (λ m. not (text_eq n m))

pub one_unset : (es : List (Text × Tree)) (n : Text) → trees_of (es ++ (n, empty) ∷ []) empty ≡ trees_of es empty
one_unset es n = trees_append es ((n, empty) ∷ []) empty ∙ ap (trees_of es) (none_more n)

-- one more name with a text of its own
pub one_given : (es : List (Text × Tree)) (n : Text) (x : Text) → length es ≤ first_at n es
    → trees_of (es ++ (n, insert empty [] x) ∷ []) empty ≡ insert (trees_of es empty) n (insert (tree_at (trees_of es empty) n) [] x)
one_given es n x other =
    trees_append es ((n, insert empty [] x) ∷ []) empty
    ∙ put_other es empty n other (trees_of ((n, insert empty [] x) ∷ []) empty) [] x (
    ap (λ b. cond b (retain_keys empty (λ m. not (text_eq n m))) (insert empty n (insert empty [] x))) (sym (given_text empty [] x))
    ∙ ap (λ o. insert empty n (insert (unwrap_or o empty) [] x)) (sym (get-empty _ n)))

-- ---- searched one after another

cut_at : (es : List (Text × Tree)) (i : ℕ) (d : Text × Tree) → i < length es → drop i es ≡ get_or es i d ∷ drop (i + 1) es
cut_at es i d within = drop-cons es i d within ∙ ap (λ k. get_or es i d ∷ drop k es) (sym (add-one i))

pub one_searched : (n : Text) (es : List (Text × Tree)) (i : ℕ) (e : Text × Tree) (b : Bool) → i < length es → text_eq n (get_or es i e).0 ≡ b
    → first_at n (drop i es) ≡ cond (not b) (1 + first_at n (drop (i + 1) es)) 0
one_searched n es i e b within is = ap (first_at n) (cut_at es i e within) ∙ ap (λ t. cond (not t) (1 + first_at n (drop (i + 1) es)) 0) is

pub all_searched : (n : Text) (es : List (Text × Tree)) (i : ℕ) → length es ≤ i → first_at n (drop i es) ≡ 0
all_searched n es i past = ap (first_at n) (drop_all i es past)
