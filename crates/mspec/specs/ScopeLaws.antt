-- SPDX-License-Identifier: Apache-2.0
-- The laws of scopes: what is done on top of a scope leaves the variables that it hides as they were, and a variable is the
-- same by each of its names. The functions of src/ named after them carry them.
use Rattle.std.specs.Prelude.{◌≡◌, ℕ, zero, suc, Bool, true, false, cond, ◌||◌, All, List, [], ◌∷◌, length, Option, Some, None}
use Rattle.std.specs.FinMap.{insert, empty}
use Rattle.std.specs.List.{list_any}
use Rattle.std.specs.Map.{keys_of}
use Rattle.mspec.specs.Node.{Text}
use Rattle.mspec.specs.Scopes.{Scope, Scopes, has, is_among, linked, are_one, tree_in, tree_of, at_home, assigned, killed, stays, killed_except, newed}
use Rattle.mspec.specs.Scopes.{newed_except}
use Rattle.mspec.specs.Scopes.{with_level, Binding, valued, linked_to, unset, bound, without_level}
use Rattle.mspec.specs.Trees.{without}

-- ---- one call

-- leaving a level that was just entered gives back what was there
abbrev pub LeavingRestores : Type 0
LeavingRestores =
    (s : Scope) (below : Scopes) →
    (without_level (with_level (s ∷ below)) ≡ s ∷ below) × ((bs : List (Text × Binding)) → without_level (bound bs (s ∷ below)) ≡ s ∷ below)

-- what is done to a variable of the top scope changes no scope below
pub record KeepsBelow (s : Scope) (below : Scopes) (n : Text) : Type 0 where
  pub assigned : (xs : List Text) (x : Text) → without_level (assigned (s ∷ below) n xs x) ≡ below
  pub killed : (xs : List Text) → without_level (killed (s ∷ below) n xs) ≡ below

abbrev pub TopVariablesStandAlone : Type 0
TopVariablesStandAlone = (s t : Scope) (below : Scopes) (n : Text) → has s n ≡ true → KeepsBelow s (t ∷ below) n

-- nor does NEW
abbrev pub NewKeepsBelow : Type 0
NewKeepsBelow =
    (s t : Scope) (below : Scopes) (names : List Text) →
    (without_level (newed names (s ∷ t ∷ below)) ≡ t ∷ below) × (without_level (newed_except names (s ∷ t ∷ below)) ≡ t ∷ below)

-- NEW hides the variables of these names, and leaves all others as they are
abbrev pub NewHides : Type 0
NewHides =
    (s : Scope) (below : Scopes) (names : List Text) (n : Text) →
    (is_among names n ≡ true → tree_of (newed names (s ∷ below)) n ≡ empty)
    × (is_among names n ≡ false → tree_of (newed names (s ∷ below)) n ≡ tree_of (s ∷ below) n)

-- NEW with names in brackets hides the variables of all others, and leaves those of its names as they are
abbrev pub NewExceptHides : Type 0
NewExceptHides =
    (s : Scope) (below : Scopes) (names : List Text) (n : Text) →
    (is_among names n ≡ false → tree_of (newed_except names (s ∷ below)) n ≡ empty)
    × (is_among names n ≡ true → tree_of (newed_except names (s ∷ below)) n ≡ tree_of (s ∷ below) n)

-- ---- names that lead to one variable

-- where a name's variable is: how many scopes lie below its own, and the name that it has there
abbrev pub home_of : Scopes → Text → Option (ℕ × Text)
home_of [] n = None
home_of (s ∷ below) n = cond (has s n) (Some (length below, n)) (home_of below (linked s n))

-- what is done to a variable by one of its names is done to it by each
pub record IsOneVariable (scopes : Scopes) (m n : Text) : Type 0 where
  pub tree : tree_of scopes m ≡ tree_of scopes n
  pub assigned : (xs : List Text) (x : Text) → tree_of (assigned scopes m xs x) n ≡ insert (tree_of scopes n) xs x
  pub killed : (xs : List Text) → tree_of (killed scopes m xs) n ≡ without (tree_of scopes n) xs

abbrev pub NamesOfOneHome : Type 0
NamesOfOneHome = (scopes : Scopes) (m n : Text) (home : ℕ × Text) → home_of scopes m ≡ Some home → home_of scopes n ≡ Some home → IsOneVariable scopes m n

-- which names are of one variable can be told from the scopes alone
pub record IsToldApart (scopes : Scopes) (m n : Text) (home : ℕ × Text) : Type 0 where
  pub told : home_of scopes n ≡ Some home → are_one scopes m n ≡ true
  pub truly : are_one scopes m n ≡ true → home_of scopes n ≡ Some home

abbrev pub NamesAreToldApart : Type 0
NamesAreToldApart = (scopes : Scopes) (m n : Text) (home : ℕ × Text) → home_of scopes m ≡ Some home → IsToldApart scopes m n home

-- and to no other
pub record AreTwoVariables (scopes : Scopes) (m n : Text) : Type 0 where
  pub assigned : (xs : List Text) (x : Text) → tree_of (assigned scopes m xs x) n ≡ tree_of scopes n
  pub killed : (xs : List Text) → tree_of (killed scopes m xs) n ≡ tree_of scopes n

abbrev pub NamesOfTwoHomes : Type 0
NamesOfTwoHomes = (scopes : Scopes) (m n : Text) → (home_of scopes m ≡ home_of scopes n → ⊥) → AreTwoVariables scopes m n

-- neither SET nor KILL parts names, or joins them
pub record KeepsHomes (scopes : Scopes) (n : Text) : Type 0 where
  pub assigned : (m : Text) (xs : List Text) (x : Text) → home_of (assigned scopes m xs x) n ≡ home_of scopes n
  pub killed : (m : Text) (xs : List Text) → home_of (killed scopes m xs) n ≡ home_of scopes n
  pub killed_except : (names : List Text) → home_of (killed_except names scopes) n ≡ home_of scopes n

abbrev pub NamesStayJoined : Type 0
NamesStayJoined = (scopes : Scopes) (n : Text) → KeepsHomes scopes n

-- KILL with names in brackets empties the variables to which none of these names leads
abbrev pub KillExceptSpares : Type 0
KillExceptSpares =
    (scopes : Scopes) (names : List Text) (n : Text) →
    ((m : Text) → is_among names m ≡ true → home_of scopes m ≡ home_of scopes n → tree_of (killed_except names scopes) n ≡ tree_of scopes n)
    × (((m : Text) → is_among names m ≡ true → home_of scopes m ≡ home_of scopes n → ⊥) → tree_of (killed_except names scopes) n ≡ empty)

-- the first of a level's formal parameters, which has a name of its own
pub record IsBound (scopes : Scopes) (n : Text) (bs : List (Text × Binding)) : Type 0 where
  pub valued : (x : Text) → tree_of (bound ((n, valued x) ∷ bs) scopes) n ≡ insert empty [] x
  pub linked : (m : Text) → home_of (bound ((n, linked_to m) ∷ bs) scopes) n ≡ home_of scopes m
  pub unset : tree_of (bound ((n, unset) ∷ bs) scopes) n ≡ empty
  -- all other names are as without it
  pub others : (b : Binding) (m : Text) → (n ≡ m → ⊥) → (tree_of (bound ((n, b) ∷ bs) scopes) m ≡ tree_of (bound bs scopes) m) × (home_of (bound ((n, b) ∷ bs) scopes) m ≡ home_of (bound bs scopes) m)

abbrev pub FormalsAreBound : Type 0
FormalsAreBound = (scopes : Scopes) (n : Text) (bs : List (Text × Binding)) → is_among (keys_of bs) n ≡ false → IsBound scopes n bs

-- a scope without links knows a name as the scopes below it do
pub record HasNoLinks (s : Scope) (below : Scopes) (n : Text) : Type 0 where
  pub tree : tree_of (s ∷ below) n ≡ cond (has s n) (tree_in s n) (tree_of below n)
  pub change : (f : Text → Scope → Scope) → at_home f n (s ∷ below) ≡ cond (has s n) (f n s ∷ below) (s ∷ at_home f n below)

abbrev pub ScopesWithoutLinks : Type 0
ScopesWithoutLinks = (s : Scope) (below : Scopes) (n : Text) → s.links ≡ [] → HasNoLinks s below n

-- below scopes without links KILL with names in brackets spares those names, and the variables that the scopes hide
abbrev pub HiddenVariablesStay : Type 0
HiddenVariablesStay =
    (names : List Text) (above : List Scope) (n : Text) → All (λ s. s.links ≡ []) above →
    stays names above n ≡ (is_among names n || list_any (λ s. has s n) above)

-- ---- any calls

pub data Call : Type 0 where
  Assign : Text → List Text → Text → Call
  Kill : Text → List Text → Call
  KillExcept : List Text → Call
  New : List Text → Call
  NewExcept : List Text → Call
  Enter : Call
  EnterBound : List (Text × Binding) → Call
  Leave : Call

abbrev pub after : Call → Scopes → Scopes
after (Assign n xs x) scopes = assigned scopes n xs x
after (Kill n xs) scopes = killed scopes n xs
after (KillExcept names) scopes = killed_except names scopes
after (New names) scopes = newed names scopes
after (NewExcept names) scopes = newed_except names scopes
after Enter scopes = with_level scopes
after (EnterBound bs) scopes = bound bs scopes
after Leave scopes = without_level scopes

abbrev pub after_all : List Call → Scopes → Scopes
after_all [] scopes = scopes
after_all (c ∷ calls) scopes = after_all calls (after c scopes)

-- whether the calls leave the levels that they enter, and `d` that were entered before, and no others
abbrev pub is_nested : List Call → ℕ → Bool
is_nested [] zero = true
is_nested [] (suc d) = false
is_nested (Assign n xs x ∷ calls) d = is_nested calls d
is_nested (Kill n xs ∷ calls) d = is_nested calls d
is_nested (KillExcept names ∷ calls) d = is_nested calls d
is_nested (New names ∷ calls) d = is_nested calls d
is_nested (NewExcept names ∷ calls) d = is_nested calls d
is_nested (Enter ∷ calls) d = is_nested calls (suc d)
is_nested (EnterBound bs ∷ calls) d = is_nested calls (suc d)
is_nested (Leave ∷ calls) zero = false
is_nested (Leave ∷ calls) (suc d) = is_nested calls d

-- a scope hides a variable if it has its name, and no other name leads through it to the variable
pub record Hides (s : Scope) (below : Scopes) (n : Text) : Type 0 where
  pub mine : has s n ≡ true
  pub alone : (m : Text) → has s m ≡ false → home_of below (linked s m) ≡ home_of below n → ⊥

-- what a scope hides comes back when its level ends, whatever was done on top of it
abbrev pub HiddenVariablesComeBack : Type 0
HiddenVariablesComeBack =
    (s t : Scope) (below : Scopes) (n : Text) (calls : List Call) → Hides s (t ∷ below) n → is_nested calls 0 ≡ true →
    tree_of (without_level (after_all calls (s ∷ t ∷ below))) n ≡ tree_of (t ∷ below) n
