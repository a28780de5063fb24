-- SPDX-License-Identifier: Apache-2.0
-- A loop that reads items does as the reading of them. The loop holds the items so far, of which count - i more may come.
use Rattle.mgrammar.proofs.GrammarWords.{◌≡◌, ℕ, suc, ◌-◌, ◌+◌, ◌≤◌, ◌<◌, List, [], ◌∷◌, ◌++◌, length, Option, Some, None, refl, sym, ap, ◌∙◌, append_assoc}
use Rattle.mgrammar.proofs.GrammarWords.{arith, append-nil, Read, with_front, past, many, after_comma, list_at}

regroup : {A : Type 0} (front : List A) (x : A) (read : Read (List A)) → with_front front (with_front (x ∷ []) read) ≡ with_front (front ++ x ∷ []) read
regroup front x (Some r) = ap (λ (xs : List _). Some (xs, r.1)) (simp append_assoc)
regroup front x None = refl

module _ {A : Type 0} (item : List ℕ → Option (Option (A × List ℕ))) where
  pub goes_on : (front : List A) (count i : ℕ) (rest : List ℕ) (x : A) (after : List ℕ) (total : Read (List A)) → i < count → item rest ≡ Some (Some (x, after))
      → with_front front (many item (count - i) rest) ≡ total → with_front (front ++ x ∷ []) (many item (count - (i + 1)) after) ≡ total
  unfolding many
  goes_on front count i rest x after total lt h so_far =
      let k : count - i ≡ suc (count - (i + 1)) = omega arith in
      let one : with_front front (many item (count - i) rest) ≡ with_front (front ++ x ∷ []) (many item (count - (i + 1)) after) = rw (k, h) (regroup front x (many item (count - (i + 1)) after)) in
      sym one ∙ so_far

  pub stops : (front : List A) (count i : ℕ) (rest : List ℕ) (total : Read (List A)) → i < count → item rest ≡ Some None
      → with_front front (many item (count - i) rest) ≡ total → total ≡ Some (front, rest)
  unfolding many
  stops front count i rest total lt h so_far =
      let k : count - i ≡ suc (count - (i + 1)) = omega arith in
      let one : with_front front (many item (count - i) rest) ≡ Some (front, rest) = rw (k, h) (ap (λ (xs : List A). Some (xs, rest)) (append-nil front)) in
      sym so_far ∙ one

  pub is_done : (front : List A) (count i : ℕ) (rest : List ℕ) (total : Read (List A)) → count ≤ i
      → with_front front (many item (count - i) rest) ≡ total → total ≡ Some (front, rest)
  unfolding many
  is_done front count i rest total le so_far =
      let k : count - i ≡ 0 = omega arith in
      let one : with_front front (many item (count - i) rest) ≡ Some (front, rest) = rw k (ap (λ (xs : List A). Some (xs, rest)) (append-nil front)) in
      sym so_far ∙ one

  pub fails_none : (front : List A) (count i : ℕ) (rest : List ℕ) (total : Read (List A)) → i < count → item rest ≡ None
      → with_front front (many item (count - i) rest) ≡ total → total ≡ None
  unfolding many
  fails_none front count i rest total lt h so_far =
      let k : count - i ≡ suc (count - (i + 1)) = omega arith in
      let one : with_front front (many item (count - i) rest) ≡ None = rw (k, h) refl in
      sym so_far ∙ one

module _ {A : Type 0} (item : List ℕ → Read A) where
  -- a list that begins with this item, of which none has come after a comma
  pub list_begins : (cs : List ℕ) (x : A) (rest : List ℕ) → item cs ≡ Some (x, rest) → with_front (x ∷ []) (many (after_comma item) (length rest - 0) rest) ≡ list_at item cs
  unfolding list_at
  list_begins cs x rest h =
      let all : length rest - 0 ≡ length rest = omega arith in
      rw (all, h) refl

  -- one more after a comma
  pub comma_goes_on : (front : List A) (count i : ℕ) (rest behind : List ℕ) (x : A) (after : List ℕ) (total : Read (List A)) → i < count → past 44 rest ≡ Some behind → item behind ≡ Some (x, after)
      → with_front front (many (after_comma item) (count - i) rest) ≡ total → with_front (front ++ x ∷ []) (many (after_comma item) (count - (i + 1)) after) ≡ total
  comma_goes_on front count i rest behind x after total lt h k so_far =
      let one : after_comma item rest ≡ Some (Some (x, after)) = rw (h, k) refl in
      goes_on (after_comma item) front count i rest x after total lt one so_far

  -- no comma
  pub comma_stops : (front : List A) (count i : ℕ) (rest : List ℕ) (total : Read (List A)) → i < count → past 44 rest ≡ None
      → with_front front (many (after_comma item) (count - i) rest) ≡ total → total ≡ Some (front, rest)
  comma_stops front count i rest total lt h so_far =
      let none : after_comma item rest ≡ Some None = rw h refl in
      stops (after_comma item) front count i rest total lt none so_far

-- a string as it grows by a character
pub pushes : (front : List ℕ) (c : ℕ) (read : Read (List ℕ)) → with_front front (with_front (c ∷ []) read) ≡ with_front (front ++ c ∷ []) read
pushes front c read = regroup front c read
