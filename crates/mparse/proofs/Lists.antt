-- SPDX-License-Identifier: Apache-2.0
-- A list of one item, and one that goes on after it.
use Rattle.mparse.proofs.ParseWords.{◌≡◌, ℕ, zero, suc, ◌-◌, List, [], ◌∷◌, length, Some, None, refl, arith, Read, with_front, past, many, after_comma, list_at}
use Rattle.mparse.proofs.ParseWords.{is_done, list_begins, comma_stops}

module _ {A : Type 0} (item : List ℕ → Read A) where
  -- the first item, and what comes after commas
  pub list_goes_on : (cs : List ℕ) (x : A) (rest : List ℕ) → item cs ≡ Some (x, rest) → with_front (x ∷ []) (many (after_comma item) (length rest) rest) ≡ list_at item cs
  unfolding list_at
  list_goes_on cs x rest h = rw h refl

  ends_at : (n : ℕ) (front : List A) (rest : List ℕ) (total : Read (List A)) → past 44 rest ≡ None → with_front front (many (after_comma item) (n - 0) rest) ≡ total → total ≡ Some (front, rest)
  ends_at zero front rest total h so_far = is_done (after_comma item) front 0 0 rest total (omega arith) so_far
  ends_at (suc n) front rest total h so_far = comma_stops item front (suc n) 0 rest total (omega arith) h so_far

  -- with no comma after the first item there is no other
  pub is_alone : (cs : List ℕ) (x : A) (rest : List ℕ) → item cs ≡ Some (x, rest) → past 44 rest ≡ None → list_at item cs ≡ Some (x ∷ [], rest)
  is_alone cs x rest h none = ends_at (length rest) (x ∷ []) rest (list_at item cs) none (list_begins item cs x rest h)
