-- SPDX-License-Identifier: Apache-2.0
-- The scope where a name's variable is, by its place.
use Rattle.std.proofs.lemmas.Bool.{eqb-true}
use Rattle.std.proofs.lemmas.List.{nil_from_length}
use Rattle.mlocal.proofs.LocalWords.{◌≡◌, ℕ, ◌+◌, ◌<◌, Bool, true, false, cond, List, [], ◌∷◌, ◌++◌, length, reverse, take, drop, get_or, set, Option, Some}
use Rattle.mlocal.proofs.LocalWords.{None, refl, sym, ap, subst, ◌∙◌, ◌&&◌, ◌||◌, is_none, append_assoc, add-one, arith, drop-cons, or-true, option_and_then}
use Rattle.mlocal.proofs.LocalWords.{unwrap_or, reverse-append, take-append-drop, set_split, drop_all, Text, text_eq, Scope, Scopes, entered, has, is_among}
use Rattle.mlocal.proofs.LocalWords.{is_other, linked, tree_in, tree_of, at_home, on_top, common, passed, known_below, is_name, leads_to, known_is, lookup}
use Rattle.mlocal.proofs.LocalWords.{◌==◌, IsHome, IsUnlinkedHome, UnlinkedHome}

pub flip-split : (xs : List Scope) (x : Scope) (ys bs : List Scope) → reverse (xs ++ x ∷ ys) ++ bs ≡ reverse ys ++ x ∷ (reverse xs ++ bs)
flip-split xs x ys bs =
    ap (λ l. l ++ bs) (reverse-append xs (x ∷ ys) ∙ ap (λ l. l ++ reverse xs) (reverse-append (x ∷ []) ys) ∙ append_assoc (reverse ys) (x ∷ []) (reverse xs))
    ∙ append_assoc (reverse ys) (x ∷ reverse xs) bs

tree-past : (n m : Text) (ps bs : Scopes) → known_below ps n ≡ Some m → tree_of (reverse ps ++ bs) n ≡ tree_of bs m
tree-past n m [] bs h = ap (λ o. tree_of bs (unwrap_or o n)) h
tree-past n m (s ∷ ps) bs h =
    ap (λ l. tree_of l n) (flip-split [] s ps bs)
    ∙ known_is s ps n m h (λ k is other to. tree-past n k ps (s ∷ bs) is ∙ ap (λ b. cond b (tree_in s k) (tree_of bs (linked s k))) other ∙ ap (tree_of bs) to)

home-past : (f : Text → Scope → Scope) (n m : Text) (ps bs : Scopes) → known_below ps n ≡ Some m → at_home f n (reverse ps ++ bs) ≡ reverse ps ++ at_home f m bs
home-past f n m [] bs h = ap (λ o. at_home f (unwrap_or o n) bs) h
home-past f n m (s ∷ ps) bs h =
    ap (at_home f n) (flip-split [] s ps bs)
    ∙ known_is s ps n m h (λ k is other to.
    home-past f n k ps (s ∷ bs) is ∙ ap (λ b. reverse ps ++ cond b (f k s ∷ bs) (s ∷ at_home f (linked s k) bs)) other ∙ ap (λ j. reverse ps ++ s ∷ at_home f j bs) to)
    ∙ sym (flip-split [] s ps (at_home f m bs))

pub here : {A : Type 0} (b : Bool) (x y : A) → b ≡ true → cond b x y ≡ x
here true x y h = refl
here false x y h = cc

pub split-at : (xs : List Scope) (i : ℕ) (d : Scope) → i < length xs → xs ≡ take i xs ++ get_or xs i d ∷ drop (i + 1) xs
split-at xs i d h = sym (take-append-drop i xs) ∙ ap (λ l. take i xs ++ l) (drop-cons xs i d h) ∙ ap (λ k. take i xs ++ get_or xs i d ∷ drop k xs) (sym (add-one i))

set-split : (xs : List Scope) (i : ℕ) (w : Scope) → i < length xs → set xs i w ≡ take i xs ++ w ∷ drop (i + 1) xs
set-split xs i w h = set_split xs i w h ∙ ap (λ k. take i xs ++ w ∷ drop k xs) (sym (add-one i))

-- the tree of the scope at the place that was found
pub tree-at : (n m : Text) (xs bs : List Scope) (i : ℕ) (d : Scope) → IsHome n xs (Some i) m → tree_of (reverse xs ++ bs) n ≡ tree_in (get_or xs i d) m
tree-at n m xs bs i d h =
    ap (λ l. tree_of (reverse l ++ bs) n) (split-at xs i d h.0) ∙ ap (λ l. tree_of l n) (flip-split (take i xs) (get_or xs i d) (drop (i + 1) xs) bs)
    ∙ tree-past n m (drop (i + 1) xs) (get_or xs i d ∷ (reverse (take i xs) ++ bs)) h.2
    ∙ here (has (get_or xs i d) m) _ _ (h.1 d)

-- a change of that scope
pub home-at : (f : Text → Scope → Scope) (n m : Text) (xs bs : List Scope) (i : ℕ) (d w : Scope) → IsHome n xs (Some i) m → w ≡ f m (get_or xs i d) → reverse (set xs i w) ++ bs ≡ at_home f n (reverse xs ++ bs)
home-at f n m xs bs i d w h e =
    ap (λ l. reverse l ++ bs) (set-split xs i w h.0) ∙ flip-split (take i xs) w (drop (i + 1) xs) bs
    ∙ ap (λ s. reverse (drop (i + 1) xs) ++ s ∷ (reverse (take i xs) ++ bs)) e
    ∙ sym (ap (λ l. at_home f n (reverse l ++ bs)) (split-at xs i d h.0) ∙ ap (at_home f n) (flip-split (take i xs) (get_or xs i d) (drop (i + 1) xs) bs)
    ∙ home-past f n m (drop (i + 1) xs) (get_or xs i d ∷ (reverse (take i xs) ++ bs)) h.2
    ∙ ap (λ l. reverse (drop (i + 1) xs) ++ l) (here (has (get_or xs i d) m) _ _ (h.1 d)))

-- the scope at the bottom has every name
pub bottom_has : (b : Scope) (n : Text) → b.others ≡ Some [] → has b n ≡ true
bottom_has b n e = ap (λ o. is_among b.names n || is_other o n) e ∙ or-true (is_among b.names n)

pub tree-bottom : (n m : Text) (xs : List Scope) (b : Scope) → b.others ≡ Some [] → IsHome n xs None m → tree_of (reverse xs ++ b ∷ []) n ≡ tree_in b m
tree-bottom n m xs b e h = tree-past n m xs (b ∷ []) h ∙ here (has b m) _ _ (bottom_has b m e)

pub home-bottom : (f : Text → Scope → Scope) (n m : Text) (xs : List Scope) (b w : Scope) → b.others ≡ Some [] → IsHome n xs None m → w ≡ f m b → reverse xs ++ w ∷ [] ≡ at_home f n (reverse xs ++ b ∷ [])
home-bottom f n m xs b w e h is =
    ap (λ s. reverse xs ++ s ∷ []) is
    ∙ sym (home-past f n m xs (b ∷ []) h ∙ ap (λ l. reverse xs ++ l) (here (has b m) _ _ (bottom_has b m e)))

-- a change of the top scope
pub top-at : (f : Scope → Scope) (xs bs : List Scope) (i : ℕ) (d w : Scope) → i + 1 ≡ length xs → w ≡ f (get_or xs i d) → reverse (set xs i w) ++ bs ≡ on_top f (reverse xs ++ bs)
top-at f xs bs i d w h e =
    let lt : i < length xs = omega (arith, h) in
    let none : drop (i + 1) xs ≡ [] = drop_all (i + 1) xs (omega (arith, h)) in
    let shown : (v : Scope) (l : List Scope) → l ≡ take i xs ++ v ∷ drop (i + 1) xs → reverse l ++ bs ≡ v ∷ (reverse (take i xs) ++ bs) =
    λ v l g. ap (λ k. reverse k ++ bs) (g ∙ ap (λ t. take i xs ++ v ∷ t) none) ∙ flip-split (take i xs) v [] bs in
    shown w _ (set-split xs i w lt) ∙ ap (λ s. s ∷ (reverse (take i xs) ++ bs)) e ∙ sym (ap (on_top f) (shown (get_or xs i d) xs (split-at xs i d lt)))

-- no name is one of none
pub none_common : (names : List Text) → common names (Some []) ≡ []
none_common [] = refl
none_common (n ∷ names) = none_common names

-- ---- the walk from the top down

-- a scope that has the name by itself, or passes it on
pub no_way : (ps qs : List Scope) (n : Text) → known_below qs n ≡ None → known_below (ps ++ qs) n ≡ None
no_way [] qs n h = h
no_way (s ∷ ps) qs n h = ap (option_and_then (passed s)) (no_way ps qs n h)

pub leads_by : (n m k : Text) (xs : List Scope) (p : Option ℕ) → IsHome n xs p m → (is_none p && text_eq k m) ≡ leads_to k xs n
leads_by n m k xs None h = sym (ap (is_name k) h)
leads_by n m k xs (Some i) h =
    let x : Scope = get_or xs i entered in
    let none : known_below (x ∷ drop (i + 1) xs) n ≡ None = ap (option_and_then (passed x)) h.2 ∙ here (has x m) _ _ (h.1 entered) in
    sym (ap (λ l. leads_to k l n) (split-at xs i entered h.0) ∙ ap (is_name k) (no_way (take i xs) (x ∷ drop (i + 1) xs) n none))

-- the same home by what is known of the list, the place and the name
pub found-at : (n m k : Text) (ls xs : List Scope) (p q : Option ℕ) → IsHome n ls p k → ls ≡ xs → p ≡ q → m ≡ k → IsHome n xs q m
found-at n m k ls xs p q h list place name = subst (IsHome n xs q) (sym name) (subst (λ o. IsHome n xs o k) place (subst (λ l. IsHome n l p k) list h))

-- one scope further down
pub one-down : (n m : Text) (xs : List Scope) (i : ℕ) (d : Scope) → i < length xs → known_below (drop (i + 1) xs) n ≡ Some m → has (get_or xs i d) m ≡ false → known_below (drop i xs) n ≡ Some (linked (get_or xs i d) m)
one-down n m xs i d h known other =
    ap (λ l. known_below l n) (drop-cons xs i d h ∙ ap (λ k. get_or xs i d ∷ drop k xs) (sym (add-one i)))
    ∙ ap (option_and_then (passed (get_or xs i d))) known ∙ ap (λ b. cond b None (Some (linked (get_or xs i d) m))) other

-- ---- where no level above has links

no-links : (ls : List (Text × Text)) (n : Text) → (length ls == 0) ≡ true → unwrap_or (lookup (text_eq n) ls) n ≡ n
no-links ls n e = ap (λ l. unwrap_or (lookup (text_eq n) l) n) (nil_from_length ls (eqb-true (length ls) 0 e))

-- one scope further down, by the same name
pub unlinked-down : (n : Text) (xs : List Scope) (i : ℕ) (d : Scope) → i < length xs → known_below (drop (i + 1) xs) n ≡ Some n → has (get_or xs i d) n ≡ false → (length (get_or xs i d).links == 0) ≡ true → known_below (drop i xs) n ≡ Some n
unlinked-down n xs i d h known other none = one-down n n xs i d h known other ∙ ap Some (no-links (get_or xs i d).links n none)

-- the same home by what is known of the list and of what was found
pub unlinked-found : (n : Text) (ls xs : List Scope) (g h : UnlinkedHome) → IsUnlinkedHome n ls g → ls ≡ xs → g ≡ h → IsUnlinkedHome n xs h
unlinked-found n ls xs g h is list found = subst (IsUnlinkedHome n xs) found (subst (λ l. IsUnlinkedHome n l g) list is)
