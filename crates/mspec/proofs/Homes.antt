-- SPDX-License-Identifier: Apache-2.0
-- Where variables are, and what a change of one leaves of all.
use Rattle.mspec.proofs.SpecWords.{ℕ, suc, ◌≡◌, ◌<◌, Bool, true, false, not, cond, ◌&&◌, List, [], ◌∷◌, length, map, Option, Some, None, refl, sym, ap, ◌∙◌}
use Rattle.mspec.proofs.SpecWords.{arith}
use Rattle.mspec.proofs.SpecWords.{nat_tests, nat_eq, subst, unwrap_or, lookup, bytes_decides, nat_list_cmp_total, tied_itself, get, insert, empty, retain_keys}
use Rattle.mspec.proofs.SpecWords.{get-insert, is_eq, entries, Text, Tree, text_eq, without, is_within}
use Rattle.std.proofs.Math.Nat.{lt_irrefl}
use Rattle.std.specs.FinMap.{same_entries_map}
use Rattle.mspec.specs.Scopes.{Scope, Scopes, has, linked, are_one, tree_in, tree_of, with_tree, at_home, is_bare, set_in, kill_in}
use Rattle.mspec.specs.ScopeLaws.{home_of, IsToldApart, NamesAreToldApart, NamesOfOneHome, NamesOfTwoHomes, ScopesWithoutLinks}
use Rattle.mspec.proofs.ComputedMaps.{no_texts_cut, no_nodes}
use Rattle.mspec.proofs.ScopeFacts.{tree-retain, other-tree, bare-names, bare-other}

-- ---- homes

abbrev pub Home : Type 0
Home = ℕ × Text

pub same_name : (k : ℕ) (m n : Text) → ◌≡◌ {A = Option Home} (Some (k, m)) (Some (k, n)) → m ≡ n
same_name k m n e = ap (λ (o : Option Home). (unwrap_or o (k, m)).1) e

next : (k : ℕ) → k < suc k
next k = omega arith

later : (j k : ℕ) → j < k → j < suc k
later j k h = omega (arith, h)

-- a home lies among the scopes
within : (scopes : Scopes) (n : Text) (h : Home) → home_of scopes n ≡ Some h → h.0 < length scopes
within [] n h e = absurd (cc)
within (s ∷ below) n h e = here (has s n) e (within below (linked s n) h)
  where
    here : (b : Bool) → cond b (Some (length below, n)) (home_of below (linked s n)) ≡ Some h → (home_of below (linked s n) ≡ Some h → h.0 < length below) → h.0 < suc (length below)
    here true e rest = let same : length below ≡ h.0 = ap (λ (o : Option Home). (unwrap_or o h).0) e in subst (λ k. k < suc (length below)) same (next (length below))
    here false e rest = later h.0 (length below) (rest e)

pub no_home : (below : Scopes) (n m : Text) → home_of below n ≡ Some (length below, m) → ⊥
no_home below n m e = lt_irrefl (length below) (within below n (length below, m) e)

-- names with one home have one variable
pub one_tree : (scopes : Scopes) (m n : Text) → home_of scopes m ≡ home_of scopes n → tree_of scopes m ≡ tree_of scopes n
one_tree [] m n e = refl
one_tree (s ∷ below) m n e = here (has s m) (has s n) e (one_tree below (linked s m) (linked s n))
  where
    here : (a b : Bool) → cond a (Some (length below, m)) (home_of below (linked s m)) ≡ cond b (Some (length below, n)) (home_of below (linked s n))
        → (home_of below (linked s m) ≡ home_of below (linked s n) → tree_of below (linked s m) ≡ tree_of below (linked s n))
        → cond a (tree_in s m) (tree_of below (linked s m)) ≡ cond b (tree_in s n) (tree_of below (linked s n))
    here true true e rest = ap (tree_in s) (same_name (length below) m n e)
    here true false e rest = absurd (no_home below (linked s n) m (sym e))
    here false true e rest = absurd (no_home below (linked s m) n e)
    here false false e rest = rest e

pub names_are_told_apart : NamesAreToldApart
names_are_told_apart [] m n h e = absurd cc
names_are_told_apart (s ∷ below) m n h e =
    let is = here (has s m) (has s n) e (names_are_told_apart below (linked s m) (linked s n) h) in
    record { told = is.0; truly = is.1 }
  where
    here : (a b : Bool) → cond a (Some (length below, m)) (home_of below (linked s m)) ≡ Some h
        → (home_of below (linked s m) ≡ Some h → IsToldApart below (linked s m) (linked s n) h)
        → (cond b (Some (length below, n)) (home_of below (linked s n)) ≡ Some h
        → cond a (b && text_eq m n) (not b && are_one below (linked s m) (linked s n)) ≡ true)
        × (cond a (b && text_eq m n) (not b && are_one below (linked s m) (linked s n)) ≡ true
        → cond b (Some (length below, n)) (home_of below (linked s n)) ≡ Some h)
    here true true e rest =
        (λ q. (bytes_decides m n).1 (same_name (length below) m n (e ∙ sym q)), λ q. ap (λ x. Some (length below, x)) (sym ((bytes_decides m n).0 q)) ∙ e)
    here true false e rest = (λ q. absurd (no_home below (linked s n) m (q ∙ sym e)), λ q. absurd cc)
    here false true e rest = (λ q. absurd (no_home below (linked s m) n (e ∙ sym q)), λ q. absurd cc)
    here false false e rest = let r = rest e in (r.told, r.truly)

-- ---- a change of one variable

-- a change of a scope for the sake of the variable of one name
pub record Changes (f : Text → Scope → Scope) : Type 0 where
  pub names : (m : Text) (s : Scope) (n : Text) → has (f m s) n ≡ has s n
  pub links : (m : Text) (s : Scope) → (f m s).links ≡ s.links
  pub others : (m : Text) (s : Scope) (n : Text) → (m ≡ n → ⊥) → tree_in (f m s) n ≡ tree_in s n

module _ (f : Text → Scope → Scope) (of : Changes f) where
  pub linked_stays : (m : Text) (s : Scope) (n : Text) → linked (f m s) n ≡ linked s n
  linked_stays m s n = ap (λ ls. unwrap_or (lookup (text_eq n) ls) n) (of.links m s)

  length_stays : (m : Text) (scopes : Scopes) → length (at_home f m scopes) ≡ length scopes
  length_stays m [] = refl
  length_stays m (s ∷ below) = here (has s m) (length_stays (linked s m) below)
    where
      here : (b : Bool) → length (at_home f (linked s m) below) ≡ length below → length (cond b (f m s ∷ below) (s ∷ at_home f (linked s m) below)) ≡ suc (length below)
      here true rest = refl
      here false rest = ap suc rest

  pub home_stays : (m : Text) (scopes : Scopes) (n : Text) → home_of (at_home f m scopes) n ≡ home_of scopes n
  home_stays m [] n = refl
  home_stays m (s ∷ below) n = here (has s m) (home_stays (linked s m) below (linked s n))
    where
      here : (b : Bool) → home_of (at_home f (linked s m) below) (linked s n) ≡ home_of below (linked s n) → home_of (cond b (f m s ∷ below) (s ∷ at_home f (linked s m) below)) n ≡ home_of (s ∷ below) n
      here true rest = λ i. cond (of.names m s n i) (Some (length below, n)) (home_of below (linked_stays m s n i))
      here false rest = λ i. cond (has s n) (Some (length_stays (linked s m) below i, n)) (rest i)

  pub other_home : (m n : Text) (scopes : Scopes) → (home_of scopes m ≡ home_of scopes n → ⊥) → tree_of (at_home f m scopes) n ≡ tree_of scopes n
  other_home m n [] other = refl
  other_home m n (s ∷ below) other = here (has s m) (has s n) refl other (other_home (linked s m) (linked s n) below)
    where
      here : (a b : Bool) → has s n ≡ b
          → (cond a (Some (length below, m)) (home_of below (linked s m)) ≡ cond b (Some (length below, n)) (home_of below (linked s n)) → ⊥)
          → ((home_of below (linked s m) ≡ home_of below (linked s n) → ⊥) → tree_of (at_home f (linked s m) below) (linked s n) ≡ tree_of below (linked s n))
          → tree_of (cond a (f m s ∷ below) (s ∷ at_home f (linked s m) below)) n ≡ cond b (tree_in s n) (tree_of below (linked s n))
      here true true is other rest =
          ap (λ b. cond b (tree_in (f m s) n) (tree_of below (linked (f m s) n))) (of.names m s n ∙ is)
          ∙ of.others m s n (λ same. other (ap (λ k. Some (length below, k)) same))
      here true false is other rest =
          ap (λ b. cond b (tree_in (f m s) n) (tree_of below (linked (f m s) n))) (of.names m s n ∙ is) ∙ ap (tree_of below) (linked_stays m s n)
      here false true is other rest = ap (λ b. cond b (tree_in s n) (tree_of (at_home f (linked s m) below) (linked s n))) is
      here false false is other rest = ap (λ b. cond b (tree_in s n) (tree_of (at_home f (linked s m) below) (linked s n))) is ∙ rest other

  pub same_home : (g : Tree → Tree) → ((m : Text) (s : Scope) → tree_in (f m s) m ≡ g (tree_in s m))
      → (m n : Text) (scopes : Scopes) (h : Home) → home_of scopes m ≡ Some h → home_of scopes n ≡ Some h → tree_of (at_home f m scopes) n ≡ g (tree_of scopes n)
  same_home g changed m n [] h e d = absurd (cc)
  same_home g changed m n (s ∷ below) h e d = here (has s m) (has s n) refl e d (same_home g changed (linked s m) (linked s n) below h)
    where
      here : (a b : Bool) → has s n ≡ b → cond a (Some (length below, m)) (home_of below (linked s m)) ≡ Some h → cond b (Some (length below, n)) (home_of below (linked s n)) ≡ Some h
          → (home_of below (linked s m) ≡ Some h → home_of below (linked s n) ≡ Some h → tree_of (at_home f (linked s m) below) (linked s n) ≡ g (tree_of below (linked s n)))
          → tree_of (cond a (f m s ∷ below) (s ∷ at_home f (linked s m) below)) n ≡ g (cond b (tree_in s n) (tree_of below (linked s n)))
      here true true is e d rest =
          let same : m ≡ n = same_name (length below) m n (e ∙ sym d) in
          ap (λ b. cond b (tree_in (f m s) n) (tree_of below (linked (f m s) n))) (of.names m s n ∙ is)
          ∙ ap (tree_in (f m s)) (sym same) ∙ changed m s ∙ ap (λ k. g (tree_in s k)) same
      here true false is e d rest = absurd (no_home below (linked s n) m (d ∙ sym e))
      here false true is e d rest = absurd (no_home below (linked s m) n (e ∙ sym d))
      here false false is e d rest = ap (λ b. cond b (tree_in s n) (tree_of (at_home f (linked s m) below) (linked s n))) is ∙ rest e d

-- ---- SET

pub own-tree : (m : Text) (t : Tree) (s : Scope) → tree_in (with_tree m t s) m ≡ t
own-tree m t s =
    ap (λ o. unwrap_or o empty) (get-insert nat_list_cmp_total s.trees m t m)
    ∙ ap (λ o. unwrap_or (cond (is_eq o) (Some t) (get s.trees m)) empty) (tied_itself nat_list_cmp_total m)

pub set_changes : (xs : List Text) (x : Text) → Changes (λ m. set_in m xs x)
set_changes xs x = record { names = λ m s n. refl; links = λ m s. refl; others = λ m s n other. other-tree m n (insert (tree_in s m) xs x) s other }

pub set_tree : (xs : List Text) (x : Text) (m : Text) (s : Scope) → tree_in (set_in m xs x s) m ≡ insert (tree_in s m) xs x
set_tree xs x m s = own-tree m (insert (tree_in s m) xs x) s

-- ---- KILL

pub kill_changes : (xs : List Text) → Changes (λ m s. kill_in m xs (get s.trees m) s)
kill_changes xs = record {
  names = λ m s n. same_names m s n (get s.trees m);
  links = λ m s. same_links m s (get s.trees m);
  others = λ m s n other. same_trees m s n (get s.trees m) other;
}
  where
    same_names : (m : Text) (s : Scope) (n : Text) (o : Option Tree) → has (kill_in m xs o s) n ≡ has s n
    same_names m s n None = refl
    same_names m s n (Some t) = let killed = with_tree m (without t xs) s in bare-names m killed n (is_bare (tree_in killed m))

    bare_links : (m : Text) (s : Scope) (b : Bool) → (cond b (record s { trees = retain_keys s.trees (λ q. not (text_eq m q)) }) s).links ≡ s.links
    bare_links m s true = refl
    bare_links m s false = refl

    same_links : (m : Text) (s : Scope) (o : Option Tree) → (kill_in m xs o s).links ≡ s.links
    same_links m s None = refl
    same_links m s (Some t) = let killed = with_tree m (without t xs) s in bare_links m killed (is_bare (tree_in killed m))

    same_trees : (m : Text) (s : Scope) (n : Text) (o : Option Tree) → (m ≡ n → ⊥) → tree_in (kill_in m xs o s) n ≡ tree_in s n
    same_trees m s n None other = refl
    same_trees m s n (Some t) other =
        let killed = with_tree m (without t xs) s in
        bare-other m n killed other (is_bare (tree_in killed m)) ∙ other-tree m n (without t xs) s other

-- a tree without a text is the empty one
some_entry : (n : ℕ) → nat_eq (suc n) 0 ≡ true → ⊥
some_entry n h = grind (arith, nat_tests, h)

no_entry : (es : List (List Text × Text)) → nat_eq (length (map (λ e. e.0) es)) 0 ≡ true → es ≡ []
no_entry [] h = refl
no_entry (e ∷ es) h = absurd (some_entry (length (map (λ e. e.0) es)) h)

bare_empty : (t : Tree) → is_bare t ≡ true → t ≡ empty
bare_empty t h = same_entries_map t empty (no_entry (entries t) h ∙ sym no_nodes)

pub text_itself : (m : Text) → text_eq m m ≡ true
text_itself m = (bytes_decides m m).1 refl

pub kill_tree : (xs : List Text) (m : Text) (s : Scope) → tree_in (kill_in m xs (get s.trees m) s) m ≡ without (tree_in s m) xs
kill_tree xs m s = here (get s.trees m) refl
  where
    -- a tree without a text goes
    gone : (t : Tree) (b : Bool) (r : Scope) → is_bare t ≡ b → tree_in r m ≡ t → tree_in (cond b (record r { trees = retain_keys r.trees (λ q. not (text_eq m q)) }) r) m ≡ t
    gone t true r e is = tree-retain r (λ q. not (text_eq m q)) m ∙ ap (λ b. cond (not b) (tree_in r m) empty) (text_itself m) ∙ sym (bare_empty t e)
    gone t false r e is = is

    here : (o : Option Tree) → get s.trees m ≡ o → tree_in (kill_in m xs o s) m ≡ without (unwrap_or o empty) xs
    here None e = ap (λ o. unwrap_or o empty) e ∙ sym (no_texts_cut (λ ys. not (is_within xs ys)))
    here (Some t) e =
        let u = without t xs in
        let r = with_tree m u s in
        let is : tree_in r m ≡ u = own-tree m u s in
        gone u (is_bare (tree_in r m)) r (ap is_bare (sym is)) is

-- ---- the laws

pub names_of_one_home : NamesOfOneHome
names_of_one_home scopes m n home e d = record {
  tree = one_tree scopes m n (e ∙ sym d);
  assigned = λ xs x. same_home (λ m. set_in m xs x) (set_changes xs x) (λ t. insert t xs x) (set_tree xs x) m n scopes home e d;
  killed = λ xs. same_home (λ m s. kill_in m xs (get s.trees m) s) (kill_changes xs) (λ t. without t xs) (kill_tree xs) m n scopes home e d;
}

pub names_of_two_homes : NamesOfTwoHomes
names_of_two_homes scopes m n other = record {
  assigned = λ xs x. other_home (λ m. set_in m xs x) (set_changes xs x) m n scopes other;
  killed = λ xs. other_home (λ m s. kill_in m xs (get s.trees m) s) (kill_changes xs) m n scopes other;
}

-- ---- scopes without links

pub not_linked : (s : Scope) (n : Text) → s.links ≡ [] → linked s n ≡ n
not_linked s n none = ap (λ ls. unwrap_or (lookup (text_eq n) ls) n) none

pub scopes_without_links : ScopesWithoutLinks
scopes_without_links s below n none = record {
  tree = ap (λ k. cond (has s n) (tree_in s n) (tree_of below k)) (not_linked s n none);
  change = λ f. ap (λ k. cond (has s n) (f n s ∷ below) (s ∷ at_home f k below)) (not_linked s n none);
}
