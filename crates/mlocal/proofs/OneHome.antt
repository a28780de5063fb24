-- SPDX-License-Identifier: Apache-2.0
-- The homes of names, and whether two names lead to one variable.
use Rattle.std.proofs.lemmas.Bool.{eqb-true}
use Rattle.std.proofs.lemmas.List.{length-append, length-reverse, length-take-le}
use Rattle.mlocal.proofs.LocalWords.{◌≡◌, ℕ, ◌<◌, ◌+◌, ◌==◌, ◌&&◌, Bool, true, false, cond, List, [], ◌∷◌, ◌++◌, length, reverse, take, drop, get_or, Option}
use Rattle.mlocal.proofs.LocalWords.{Some, None, refl, sym, ap, ◌∙◌, arith, unwrap_or, Text, text_eq, Scope, Scopes, entered, has}
use Rattle.mlocal.proofs.LocalWords.{linked, known_below, known_is, bytes_decides, IsHome}
use Rattle.mspec.specs.Scopes.{are_one}
use Rattle.mspec.specs.ScopeLaws.{home_of}
use Rattle.mspec.proofs.Homes.{names_are_told_apart}
use Rattle.mlocal.specs.Home.{scopes_below}
use Rattle.mlocal.proofs.Stacks.{bottom_has, flip-split, here, split-at}

past : (n m : Text) (ps bs : Scopes) → known_below ps n ≡ Some m → home_of (reverse ps ++ bs) n ≡ home_of bs m
past n m [] bs h = ap (λ o. home_of bs (unwrap_or o n)) h
past n m (s ∷ ps) bs h =
    ap (λ l. home_of l n) (flip-split [] s ps bs)
    ∙ known_is s ps n m h (λ k is other to.
    past n k ps (s ∷ bs) is ∙ ap (λ b. cond b (Some (length bs, k)) (home_of bs (linked s k))) other ∙ ap (home_of bs) to)

below_one : (xs : List Scope) (i : ℕ) (b : Scope) → i < length xs → length (reverse (take i xs) ++ b ∷ []) ≡ i + 1
below_one xs i b h =
    let front : length (take i xs) ≡ i = length-take-le i xs (omega (arith, h)) in
    omega (arith, length-append (reverse (take i xs)) (b ∷ []), length-reverse (take i xs), front)

-- by the place of its scope, and the name that it has there
pub found_home : (n m : Text) (xs : List Scope) (b : Scope) (p : Option ℕ) → b.others ≡ Some [] → IsHome n xs p m
    → home_of (reverse xs ++ b ∷ []) n ≡ Some (scopes_below p, m)
found_home n m xs b None e h = past n m xs (b ∷ []) h ∙ here (has b m) _ _ (bottom_has b m e)
found_home n m xs b (Some i) e h =
    ap (λ l. home_of (reverse l ++ b ∷ []) n) (split-at xs i entered h.0)
    ∙ ap (λ l. home_of l n) (flip-split (take i xs) (get_or xs i entered) (drop (i + 1) xs) (b ∷ []))
    ∙ past n m (drop (i + 1) xs) (get_or xs i entered ∷ (reverse (take i xs) ++ b ∷ [])) h.2
    ∙ here (has (get_or xs i entered) m) _ _ (h.1 entered) ∙ ap (λ (k : ℕ). Some (k, m)) (below_one xs i b h.0)

-- two names are of one variable if both are the same
module _ (scopes : Scopes) (m n : Text) (i j : ℕ) (a b : Text) (of_m : home_of scopes m ≡ Some (i, a)) (of_n : home_of scopes n ≡ Some (j, b)) where
  both_homes : are_one scopes m n ≡ true → (i ≡ j) × (a ≡ b)
  both_homes one =
      let same : ◌≡◌ {A = Option (ℕ × Text)} (Some (j, b)) (Some (i, a)) = sym of_n ∙ (names_are_told_apart scopes m n (i, a) of_m).truly one in
      (sym (ap (λ (o : Option (ℕ × Text)). (unwrap_or o (j, b)).0) same), sym (ap (λ (o : Option (ℕ × Text)). (unwrap_or o (j, b)).1) same))

  one_or_two : (c d e : Bool) → (i == j) ≡ c → text_eq a b ≡ d → are_one scopes m n ≡ e → c && d ≡ e
  one_or_two true true true p q one = refl
  one_or_two true true false p q one =
      let place : i ≡ j = eqb-true i j p in
      let name : a ≡ b = (bytes_decides a b).0 q in
      let same : ◌≡◌ {A = Option (ℕ × Text)} (Some (j, b)) (Some (i, a)) = sym (ap (λ (k : ℕ). Some (k, a)) place ∙ ap (λ (x : Text). Some (j, x)) name) in
      sym ((names_are_told_apart scopes m n (i, a) of_m).told (of_n ∙ same)) ∙ one
  one_or_two true false true p q one = sym q ∙ (bytes_decides a b).1 (both_homes one).1
  one_or_two true false false p q one = refl
  one_or_two false d true p q one = absurd (let place : i ≡ j = (both_homes one).0 in let apart = rw place at p in grind (arith, apart))
  one_or_two false d false p q one = refl

  pub are_of_one : ((i == j) && text_eq a b) ≡ are_one scopes m n
  are_of_one = one_or_two (i == j) (text_eq a b) (are_one scopes m n) refl refl refl

-- the same of their homes in a list, bottom first
pub are_one_by : (xs : List Scope) (bottom : Scope) (m n a b : Text) (p q : Option ℕ) → bottom.others ≡ Some [] → IsHome m xs p a → IsHome n xs q b
    → ((scopes_below p == scopes_below q) && text_eq a b) ≡ are_one (reverse xs ++ bottom ∷ []) m n
are_one_by xs bottom m n a b p q every first second =
    are_of_one (reverse xs ++ bottom ∷ []) m n (scopes_below p) (scopes_below q) a b (found_home m a xs bottom p every first)
    (found_home n b xs bottom q every second)

-- the same where the place is known to be one, or not to be
pub one_place : (same text one : Bool) → same && text ≡ one → same ≡ true → text ≡ one
one_place true text one h is = h
one_place false text one h is = cc

pub other_place : (same text one : Bool) → same && text ≡ one → same ≡ false → false ≡ one
other_place false text one h is = h
other_place true text one h is = cc
