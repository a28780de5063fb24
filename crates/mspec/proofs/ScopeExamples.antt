-- SPDX-License-Identifier: Apache-2.0
-- Variables with two names, on examples, as proved equations. The values are what GT.M answers.
use Rattle.mspec.proofs.SpecWords.{◌≡◌, true, false, [], ◌∷◌, Some, None, codes, rules, Text}
use Rattle.mspec.specs.Scopes.{Scopes, bottom, are_one, value_at, assigned, killed, killed_except, newed, newed_except, valued, linked_to, unset, bound}
use Rattle.mspec.specs.Scopes.{without_level}
use Rattle.mspec.proofs.ComputedMaps.{computed_maps}
use Rattle.mspec.proofs.ComputedNumbers.{computes}

abbrev a : Text
a = codes "A"

abbrev b : Text
b = codes "B"

abbrev c : Text
c = codes "C"

abbrev set : Text → Text → Scopes → Scopes
set n x scopes = assigned scopes n [] x

-- A is 1 and C is 3, and B is another name of A
abbrev before : Scopes
before = set c (codes "3") (set a (codes "1") (bottom ∷ []))

abbrev joined : Scopes
joined = bound ((b, linked_to a) ∷ []) before

-- ---- SET and KILL

record Changed : Type 0 where
  shows_by_both : value_at (set b (codes "2") joined) a [] ≡ Some (codes "2")
  shows_to_the_caller : value_at (without_level (set b (codes "2") joined)) a [] ≡ Some (codes "2")
  killed_by_both : value_at (killed joined b []) a [] ≡ None
  stays_joined : value_at (set b (codes "2") (killed joined b [])) a [] ≡ Some (codes "2")
  stays_joined_after_all : value_at (set b (codes "2") (killed_except [] joined)) a [] ≡ Some (codes "2")

changed : Changed
unfolding computes
changed = record {
  shows_by_both = simp computed_maps;
  shows_to_the_caller = simp computed_maps;
  killed_by_both = simp computed_maps;
  stays_joined = simp computed_maps;
  stays_joined_after_all = simp computed_maps;
}

record Spared : Type 0 where
  by_formal : value_at (killed_except (b ∷ []) joined) a [] ≡ Some (codes "1")
  by_actual : value_at (killed_except (a ∷ []) joined) b [] ≡ Some (codes "1")
  by_neither : value_at (killed_except (c ∷ []) joined) a [] ≡ None
  another : value_at (killed_except (b ∷ []) joined) c [] ≡ None
  -- by a name that a new variable hides it is not spared, but by one that leads to it
  by_hidden : value_at (killed_except (a ∷ []) (newed (a ∷ []) joined)) b [] ≡ None
  below_hidden : value_at (killed_except (b ∷ []) (newed (a ∷ []) joined)) b [] ≡ Some (codes "1")

spared : Spared
unfolding computes
spared = record {
  by_formal = simp computed_maps;
  by_actual = simp computed_maps;
  by_neither = simp computed_maps;
  another = simp computed_maps;
  by_hidden = simp computed_maps;
  below_hidden = simp computed_maps;
}

-- ---- names of one variable

record Joined : Type 0 where
  both : are_one joined a b ≡ true
  other : are_one joined b c ≡ false
  itself : are_one joined c c ≡ true
  -- a new variable is another one than the one that it hides
  hidden : are_one (newed (a ∷ []) joined) a b ≡ false
  exchanged_names : are_one (bound ((b, linked_to a) ∷ (a, linked_to b) ∷ []) before) a b ≡ false
  of_two_names : are_one (bound ((b, linked_to a) ∷ (c, linked_to a) ∷ []) before) b c ≡ true

joined_names : Joined
unfolding computes
joined_names = search rules

-- ---- NEW

record Parted : Type 0 where
  formal_is_new : value_at (newed (b ∷ []) joined) b [] ≡ None
  formal_is_parted : value_at (without_level (set b (codes "9") (newed (b ∷ []) joined))) a [] ≡ Some (codes "1")
  actual_is_new : value_at (newed (a ∷ []) joined) b [] ≡ Some (codes "1")
  formal_leads_to_the_old : value_at (without_level (set b (codes "8") (set a (codes "7") (newed (a ∷ []) joined)))) a [] ≡ Some (codes "8")
  formal_in_brackets : value_at (without_level (set b (codes "8") (newed_except (b ∷ []) joined))) a [] ≡ Some (codes "8")
  actual_in_brackets : value_at (without_level (set b (codes "8") (newed_except (a ∷ []) joined))) a [] ≡ Some (codes "1")

parted : Parted
unfolding computes
parted = record {
  formal_is_new = simp computed_maps;
  formal_is_parted = simp computed_maps;
  actual_is_new = simp computed_maps;
  formal_leads_to_the_old = simp computed_maps;
  formal_in_brackets = simp computed_maps;
  actual_in_brackets = simp computed_maps;
}

-- ---- several parameters

record Several : Type 0 where
  by_value : value_at (bound ((b, valued (codes "5")) ∷ []) before) b [] ≡ Some (codes "5")
  missing : value_at (bound ((a, unset) ∷ []) before) a [] ≡ None
  exchanged : value_at (without_level (set b (codes "5") (bound ((b, linked_to a) ∷ (a, linked_to b) ∷ []) before))) a [] ≡ Some (codes "5")
  exchanged_back : value_at (without_level (set a (codes "5") (bound ((b, linked_to a) ∷ (a, linked_to b) ∷ []) before))) a [] ≡ Some (codes "1")
  handed_over_twice : value_at (set b (codes "5") (bound ((b, linked_to a) ∷ (c, linked_to a) ∷ []) before)) c [] ≡ Some (codes "5")
  handed_on : value_at (set c (codes "5") (newed (a ∷ b ∷ []) (bound ((c, linked_to b) ∷ []) joined))) c [] ≡ Some (codes "5")
  handed_on_to_the_first : value_at (without_level (without_level (set c (codes "5") (newed (a ∷ b ∷ []) (bound ((c, linked_to b) ∷ []) joined))))) a [] ≡ Some (codes "5")

several : Several
unfolding computes
several = record {
  by_value = simp computed_maps;
  missing = simp computed_maps;
  exchanged = simp computed_maps;
  exchanged_back = simp computed_maps;
  handed_over_twice = simp computed_maps;
  handed_on = simp computed_maps;
  handed_on_to_the_first = simp computed_maps;
}
