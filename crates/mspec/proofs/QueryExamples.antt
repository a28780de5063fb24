-- SPDX-License-Identifier: Apache-2.0
-- $QUERY on examples, as proved equations. Forward the values are GT.M's, which has none backward.
use Rattle.mspec.proofs.SpecWords.{◌≡◌, List, [], ◌∷◌, Option, Some, None, codes, rules, Text}
use Rattle.mspec.specs.Trees.{Forward, Backward, following}
use Rattle.mspec.proofs.ComputedNumbers.{computes}

-- the nodes of a variable that have a text: its own, and those at 1, at 1,2 and at x
abbrev nodes : List (List Text)
nodes = [] ∷ (codes "1" ∷ []) ∷ (codes "1" ∷ codes "2" ∷ []) ∷ (codes "x" ∷ []) ∷ []

abbrev after : List Text → Option (List Text)
after xs = following Forward xs nodes

abbrev before : List Text → Option (List Text)
before xs = following Backward xs nodes

record Followed : Type 0 where
  variable : after [] ≡ Some (codes "1" ∷ [])
  below : after (codes "1" ∷ []) ≡ Some (codes "1" ∷ codes "2" ∷ [])
  above : after (codes "1" ∷ codes "2" ∷ []) ≡ Some (codes "x" ∷ [])
  last_one : after (codes "x" ∷ []) ≡ None
  undefined : after (codes "0" ∷ []) ≡ Some (codes "1" ∷ [])
  undefined_below : after (codes "1" ∷ codes "3" ∷ codes "4" ∷ []) ≡ Some (codes "x" ∷ [])
  first : after ([] ∷ []) ≡ Some (codes "1" ∷ [])
  first_below : after (codes "1" ∷ [] ∷ []) ≡ Some (codes "1" ∷ codes "2" ∷ [])

followed : Followed
unfolding computes
followed = search rules

record Preceded : Type 0 where
  variable : before [] ≡ None
  first_one : before (codes "1" ∷ []) ≡ Some []
  above : before (codes "1" ∷ codes "2" ∷ []) ≡ Some (codes "1" ∷ [])
  below : before (codes "x" ∷ []) ≡ Some (codes "1" ∷ codes "2" ∷ [])
  undefined : before (codes "2" ∷ []) ≡ Some (codes "1" ∷ codes "2" ∷ [])
  undefined_below : before (codes "1" ∷ codes "1" ∷ []) ≡ Some (codes "1" ∷ [])
  last : before ([] ∷ []) ≡ Some (codes "x" ∷ [])
  last_below : before (codes "1" ∷ [] ∷ []) ≡ Some (codes "1" ∷ codes "2" ∷ [])
  none_below : before (codes "x" ∷ [] ∷ []) ≡ Some (codes "x" ∷ [])

preceded : Preceded
unfolding computes
preceded = search rules
