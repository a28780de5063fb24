-- SPDX-License-Identifier: Apache-2.0
-- A variable without the keys of a node and of the nodes below it.
use Rattle.mlocal.proofs.LocalWords.{◌≡◌, Bool, true, false, not, cond, ◌||◌, List, [], ◌∷◌, map, All, Option, Some, None, refl, sym, ap, ◌∙◌, is_eq, Ordering}
use Rattle.mlocal.proofs.LocalWords.{Less, Equal, Greater, or-true, same_map, lookup, keys_of, tied_itself, All-head, All-tail, map_of, Text, subscripts_cmp}
use Rattle.mlocal.proofs.LocalWords.{significant_digits, is_within, without, found_is_had, subscripts_cmp_total, subscripts_cmp_exact, behind_below}
use Rattle.mlocal.proofs.LocalWords.{AreSomeSubs, is_from, is_one_of, BTreeMap, filter}
use Rattle.std.specs.BTreeMap as tree
use Rattle.mlocal.proofs.Bounds.{from_within}
use Rattle.mlocal.proofs.Own.{retained}

abbrev R : List Text → List Text → Ordering
R = subscripts_cmp significant_digits

-- ---- one more key is taken out

pub one_more : (a b : Bool) (o : Option Text) → cond a None (cond b None o) ≡ cond (b || a) None o
one_more true true o = refl
one_more true false o = refl
one_more false true o = refl
one_more false false o = refl

-- ---- the keys that a test takes

abbrev Entries : Type 0
Entries = List (List Text × Text)

-- the keys among these that a test takes
abbrev pub taken : (List Text → Bool) → Entries → List (List Text)
taken p es = map (λ e. e.0) (filter (λ e. p e.0) es)

same_key : (k q : List Text) (o : Ordering) → R k q ≡ o → is_eq o ≡ true → k ≡ q
same_key k q Less e is = cc
same_key k q Equal e is = subscripts_cmp_exact significant_digits k q e
same_key k q Greater e is = cc

module _ (p : List Text → Bool) (q : List Text) where
  not_taken : p q ≡ false → (es : Entries) → is_one_of (taken p es) q ≡ false
  not_taken other [] = refl
  not_taken other (e ∷ es) = here (p e.0) refl (not_taken other es)
    where
      first : (b : Bool) → is_eq (R e.0 q) ≡ b → p e.0 ≡ true → is_one_of (taken p es) q ≡ false → (b || is_one_of (taken p es) q) ≡ false
      first true is passes rest = let same = same_key e.0 q (R e.0 q) refl is in let passes' : p q ≡ true = ap p (sym same) ∙ passes in cc
      first false is passes rest = rest

      here : (b : Bool) → p e.0 ≡ b → is_one_of (taken p es) q ≡ false → is_one_of (map (λ e. e.0) (cond b (e ∷ filter (λ e. p e.0) es) (filter (λ e. p e.0) es))) q ≡ false
      here true passes rest = first (is_eq (R e.0 q)) refl passes rest
      here false passes rest = rest

  is_taken : p q ≡ true → (es : Entries) (x : Text) → lookup (λ k. is_eq (R q k)) es ≡ Some x → is_one_of (taken p es) q ≡ true
  is_taken passes [] x e = cc
  is_taken passes (e ∷ es) x found = here (is_eq (R q e.0)) refl found (is_taken passes es x)
    where
      later : (b : Bool) → is_one_of (taken p es) q ≡ true → is_one_of (map (λ e. e.0) (cond b (e ∷ filter (λ e. p e.0) es) (filter (λ e. p e.0) es))) q ≡ true
      later true rest = ap (λ t. is_eq (R e.0 q) || t) rest ∙ or-true (is_eq (R e.0 q))
      later false rest = rest

      here : (b : Bool) → is_eq (R q e.0) ≡ b → cond b (Some e.1) (lookup (λ k. is_eq (R q k)) es) ≡ Some x → (lookup (λ k. is_eq (R q k)) es ≡ Some x → is_one_of (taken p es) q ≡ true)
          → is_one_of (map (λ e. e.0) (cond (p e.0) (e ∷ filter (λ e. p e.0) es) (filter (λ e. p e.0) es))) q ≡ true
      here true is f rest =
          let same : q ≡ e.0 = same_key q e.0 (R q e.0) refl is in
          ap (λ b. is_one_of (map (λ e. e.0) (cond b (e ∷ filter (λ e. p e.0) es) (filter (λ e. p e.0) es))) q) (ap p (sym same) ∙ passes)
          ∙ ap (λ k. is_eq (R k q) || is_one_of (taken p es) q) (sym same)
          ∙ ap (λ o. is_eq o || is_one_of (taken p es) q) (tied_itself (subscripts_cmp_total significant_digits) q)
      here false is f rest = later (p e.0) (rest f)

-- ---- the variable

all_among : (es : Entries) (q : List Text) (x : Text) → All AreSomeSubs (keys_of es) → lookup (λ k. is_eq (R q k)) es ≡ Some x → AreSomeSubs q
all_among [] q x all e = cc
all_among (e ∷ es) q x all found = here (is_eq (R q e.0)) refl found (all_among es q x (All-tail AreSomeSubs e.0 (keys_of es) all))
  where
    here : (b : Bool) → is_eq (R q e.0) ≡ b → cond b (Some e.1) (lookup (λ k. is_eq (R q k)) es) ≡ Some x → (lookup (λ k. is_eq (R q k)) es ≡ Some x → AreSomeSubs q) → AreSomeSubs q
    here true is f rest = let same : q ≡ e.0 = same_key q e.0 (R q e.0) refl is in rw same (All-head AreSomeSubs e.0 (keys_of es) all)
    here false is f rest = rest f

-- what is left at a key if the node and those below it are taken out
left_at : (k : List Text) (es : Entries) (q : List Text) → All AreSomeSubs (keys_of es)
    → cond (is_one_of (taken (is_from k (behind_below k)) es) q) None (lookup (λ k. is_eq (R q k)) es) ≡ cond (not (is_within k q)) (lookup (λ k. is_eq (R q k)) es) None
left_at k es q all = here (lookup (λ k. is_eq (R q k)) es) refl
  where
    none : (a b : Bool) → cond a None None ≡ cond {A = Option Text} b None None
    none true true = refl
    none true false = refl
    none false true = refl
    none false false = refl

    some : (x : Text) → AreSomeSubs q → lookup (λ k. is_eq (R q k)) es ≡ Some x → (w : Bool) → is_within k q ≡ w → cond (is_one_of (taken (is_from k (behind_below k)) es) q) None (Some x) ≡ cond (not w) (Some x) None
    some x subs e true is = ap (λ b. cond b None (Some x)) (is_taken (is_from k (behind_below k)) q (from_within k q subs.0 ∙ is) es x e)
    some x subs e false is = ap (λ b. cond b None (Some x)) (not_taken (is_from k (behind_below k)) q (from_within k q subs.0 ∙ is) es)

    here : (o : Option Text) → lookup (λ k. is_eq (R q k)) es ≡ o → cond (is_one_of (taken (is_from k (behind_below k)) es) q) None o ≡ cond (not (is_within k q)) o None
    here None e = none (is_one_of (taken (is_from k (behind_below k)) es) q) (not (is_within k q))
    here (Some x) e = some x (all_among es q x all e) e (is_within k q) refl

pub without_taken : (m n : BTreeMap (List Text) Text) (k : List Text) → All AreSomeSubs (tree.keys m)
    → ((q : List Text) → tree.get R n q ≡ cond (is_one_of (taken (is_from k (behind_below k)) m.entries) q) None (tree.get R m q)) → map_of {R = R} (λ x. x) n ≡ without (map_of (λ x. x) m) k
without_taken m n k all taken = same_map (subscripts_cmp_total significant_digits) (subscripts_cmp_exact significant_digits) _ _ (λ q.
    sym (found_is_had (subscripts_cmp_total significant_digits) n q) ∙ taken q ∙ left_at k m.entries q all
    ∙ ap (λ o. cond (not (is_within k q)) o None) (found_is_had (subscripts_cmp_total significant_digits) m q) ∙ sym (retained (map_of (λ x. x) m) k q))
