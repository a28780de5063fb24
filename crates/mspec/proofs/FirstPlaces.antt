-- SPDX-License-Identifier: Apache-2.0
-- The first place of a text in another is where it stands first.
use Rattle.mspec.proofs.SpecWords.{◌≡◌, ℕ, suc, ◌≤◌, Bool, true, false, List, [], ◌∷◌, ◌++◌, length, Option, Some, None, refl, ap, arith, option_map}
use Rattle.mspec.proofs.SpecWords.{MatchOption, Lacks, begins_with, StandsFirst, FirstPlace, first_place, cond}
use Rattle.mspec.proofs.PieceLists.{begins_split, not_begun, lacks_more}

at_front : (t s : List ℕ) → begins_with t s ≡ true → StandsFirst t s 0
at_front t s begun =
    let split = begins_split t s begun in
    record { before = []; after = split.0; whole = split.1; place = refl; first = λ before after e. omega arith }

-- in an empty text, where b says whether t is empty
in_empty : (t : List ℕ) (b : Bool) → begins_with t [] ≡ b → MatchOption (cond b (Some 0) None) (Lacks t []) (λ n. StandsFirst t [] n)
in_empty t true is = at_front t [] is
in_empty t false is = nowhere where
  nowhere : Lacks t []
  nowhere [] after e = not_begun t [] after is e
  nowhere (y ∷ before) after e = absurd cc

-- after a character at which t doesn't begin
behind_one : (t s : List ℕ) (x : ℕ) (r : Option ℕ) → begins_with t (x ∷ s) ≡ false → MatchOption r (Lacks t s) (λ n. StandsFirst t s n)
    → MatchOption (option_map suc r) (Lacks t (x ∷ s)) (λ n. StandsFirst t (x ∷ s) n)
behind_one t s x None no' lacks = lacks_more t x s lacks no'
behind_one t s x (Some n) no' stands =
    record {
      before = x ∷ stands.before;
      after = stands.after;
      whole = ap (λ u. x ∷ u) stands.whole;
      place = ap suc stands.place;
      first = nowhere_before;
    } where
      nowhere_before : (before after : List ℕ) → x ∷ s ≡ before ++ (t ++ after) → suc n ≤ length before
      nowhere_before [] after e = absurd (not_begun t (x ∷ s) after no' e)
      nowhere_before (y ∷ before) after e =
          let rest : s ≡ before ++ (t ++ after) = cc in
          omega (arith, stands.first before after rest)

-- in a text of some characters, where b says whether it begins with t
in_more : (t s : List ℕ) (x : ℕ) (b : Bool) → begins_with t (x ∷ s) ≡ b → MatchOption (first_place t s) (Lacks t s) (λ n. StandsFirst t s n)
    → MatchOption (cond b (Some 0) (option_map suc (first_place t s))) (Lacks t (x ∷ s)) (λ n. StandsFirst t (x ∷ s) n)
in_more t s x true is later = at_front t (x ∷ s) is
in_more t s x false is later = behind_one t s x (first_place t s) is later

pub first_place_stands : FirstPlace
unfolding first_place
first_place_stands t [] = in_empty t (begins_with t []) refl
first_place_stands t (x ∷ s) = in_more t s x (begins_with t (x ∷ s)) refl (first_place_stands t s)
