-- SPDX-License-Identifier: Apache-2.0
-- The scope of a level with formal parameters.
use Rattle.mspec.proofs.SpecWords.{◌≡◌, Bool, true, false, cond, ◌||◌, List, [], ◌∷◌, ◌++◌, length, Some, None, refl, sym, ap, ◌∙◌, unwrap_or, lookup}
use Rattle.mspec.proofs.SpecWords.{bytes_decides, insert, empty, Text, text_eq}
use Rattle.std.proofs.lemmas.List.Folds.{list_any-append}
use Rattle.std.proofs.Math.Bool.{or-true, or-false}
use Rattle.std.specs.Map.{keys_of}
use Rattle.mspec.specs.Scopes.{Scope, has, is_among, is_other, linked, tree_in, tree_of, entered, set_in, Binding, valued, linked_to, unset, named, bind}
use Rattle.mspec.specs.Scopes.{formals}
use Rattle.mspec.specs.ScopeLaws.{home_of, FormalsAreBound}
use Rattle.mspec.proofs.ComputedMaps.{tree_none}
use Rattle.mspec.proofs.ScopeFacts.{other-tree}
use Rattle.mspec.proofs.Homes.{own-tree, text_itself}

-- ---- one more parameter

-- a name that is not this one
apart : (n m : Text) → (n ≡ m → ⊥) → text_eq m n ≡ false
apart n m other = here (text_eq m n) refl
  where
    here : (b : Bool) → text_eq m n ≡ b → b ≡ false
    here true is = absurd (other (sym ((bytes_decides m n).0 is)))
    here false is = refl

one_more : (n m : Text) (s : Scope) → has (named n s) m ≡ ((is_among s.names m || text_eq m n) || is_other s.others m)
one_more n m s = ap (λ b. b || is_other s.others m) (list_any-append (text_eq m) s.names (n ∷ []) ∙ ap (λ b. is_among s.names m || b) (or-false (text_eq m n)))

has_named : (n : Text) (s : Scope) → has (named n s) n ≡ true
has_named n s = one_more n n s ∙ ap (λ b. (is_among s.names n || b) || is_other s.others n) (text_itself n) ∙ ap (λ b. b || is_other s.others n) (or-true (is_among s.names n))

named_others : (n m : Text) (s : Scope) → (n ≡ m → ⊥) → has (named n s) m ≡ has s m
named_others n m s other = one_more n m s ∙ ap (λ b. (is_among s.names m || b) || is_other s.others m) (apart n m other) ∙ ap (λ b. b || is_other s.others m) (or-false (is_among s.names m))

lookup_append : (p : Text → Bool) (ls : List (Text × Text)) (l : Text × Text) → lookup p ls ≡ None → lookup p (ls ++ l ∷ []) ≡ cond (p l.0) (Some l.1) None
lookup_append p [] l none = refl
lookup_append p (k ∷ ls) l none = here (p k.0) none (lookup_append p ls l)
  where
    here : (b : Bool) → cond b (Some k.1) (lookup p ls) ≡ None → (lookup p ls ≡ None → lookup p (ls ++ l ∷ []) ≡ cond (p l.0) (Some l.1) None) → cond b (Some k.1) (lookup p (ls ++ l ∷ [])) ≡ cond (p l.0) (Some l.1) None
    here true none rest = absurd (cc)
    here false none rest = rest none

-- a link of another name changes no link
lookup_other : (p : Text → Bool) (ls : List (Text × Text)) (l : Text × Text) → p l.0 ≡ false → lookup p (ls ++ l ∷ []) ≡ lookup p ls
lookup_other p [] l e = ap (λ b. cond b (Some l.1) None) e
lookup_other p (k ∷ ls) l e = ap (cond (p k.0) (Some k.1)) (lookup_other p ls l e)

-- ---- a name that none of the parameters has

record IsFree (s : Scope) (n : Text) : Type 0 where
  has : has s n ≡ false
  tree : tree_in s n ≡ empty
  links : lookup (text_eq n) s.links ≡ None

-- what is the same for another name
record IsAlike (s t : Scope) (m : Text) : Type 0 where
  has : has s m ≡ has t m
  tree : tree_in s m ≡ tree_in t m
  links : lookup (text_eq m) s.links ≡ lookup (text_eq m) t.links

other_bound : (n m : Text) (b : Binding) (s : Scope) → (n ≡ m → ⊥) → IsAlike (bind n b s) s m
other_bound n m (valued x) s other = record {
  has = named_others n m s other;
  tree = other-tree n m (insert (tree_in (named n s) n) [] x) (named n s) other;
  links = refl;
}
other_bound n m (linked_to k) s other = record { has = refl; tree = refl; links = lookup_other (text_eq m) s.links (n, k) (apart n m other) }
other_bound n m unset s other = record { has = named_others n m s other; tree = refl; links = refl }

no_name : (bs : List (Text × Binding)) (n : Text) → is_among (keys_of bs) n ≡ false → IsFree (formals bs entered) n
no_name [] n e = record { has = refl; tree = ap (λ o. unwrap_or o empty) (tree_none n); links = refl }
no_name (b ∷ bs) n e = here (text_eq n b.0) refl e (no_name bs n)
  where
    here : (c : Bool) → text_eq n b.0 ≡ c → (c || is_among (keys_of bs) n) ≡ false → (is_among (keys_of bs) n ≡ false → IsFree (formals bs entered) n) → IsFree (bind b.0 b.1 (formals bs entered)) n
    here true is e rest = absurd (cc)
    here false is e rest =
        let free = rest e in
        let other : b.0 ≡ n → ⊥ = λ same. let no : ◌≡◌ {A = Bool} true false = sym (text_itself n) ∙ ap (text_eq n) (sym same) ∙ is in absurd (cc) in
        let alike = other_bound b.0 n b.1 (formals bs entered) other in
        record { has = alike.has ∙ free.has; tree = alike.tree ∙ free.tree; links = alike.links ∙ free.links }

-- ---- the law

pub formals_are_bound : FormalsAreBound
formals_are_bound scopes n bs free =
    let is : IsFree (formals bs entered) n = no_name bs n free in record {
      valued = λ x.
          ap (λ b. cond b (tree_in (set_in n [] x (named n (formals bs entered))) n) (tree_of scopes (linked (formals bs entered) n))) (has_named n (formals bs entered))
          ∙ own-tree n (insert (tree_in (formals bs entered) n) [] x) (named n (formals bs entered)) ∙ ap (λ t. insert t [] x) is.tree;
      linked = λ m.
          ap (λ b. cond b (Some (length scopes, n)) (home_of scopes (linked (bind n (linked_to m) (formals bs entered)) n))) is.has
          ∙ ap (λ o. home_of scopes (unwrap_or o n)) (lookup_append (text_eq n) (formals bs entered).links (n, m) is.links ∙ ap (λ b. cond b (Some m) None) (text_itself n));
      unset = ap (λ b. cond b (tree_in (formals bs entered) n) (tree_of scopes (linked (formals bs entered) n))) (has_named n (formals bs entered)) ∙ is.tree;
      others = λ b m other.
          let alike = other_bound n m b (formals bs entered) other in (
            λ i. cond (alike.has i) (alike.tree i) (tree_of scopes (unwrap_or (alike.links i) m)),
            λ i. cond (alike.has i) (Some (length scopes, m)) (home_of scopes (unwrap_or (alike.links i) m)),
          );
    }
