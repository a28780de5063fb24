-- SPDX-License-Identifier: Apache-2.0
-- Which names of locks exclude each other, on examples, as proved equations.
use Rattle.mspec.proofs.SpecWords.{◌≡◌, ℕ, Bool, true, false, List, [], ◌∷◌, not, ◌&&◌, ◌||◌, ap, refl, rules, codes, T, Text, LockName, held, is_conflict}
use Rattle.std.proofs.Math.Facts.{yes_eqb}
use Rattle.mspec.specs.LockConflict.{is_within}

-- names of an account
abbrev global : Text → List Text → LockName
global account subscripts = record { global = true; node = record { account = account; name = codes "J"; subscripts = subscripts } }

abbrev alice : List Text → LockName
alice = global (codes "ALICE")

abbrev local : List Text → LockName
local subscripts = record { global = false; node = record { account = codes "ALICE"; name = codes "J"; subscripts = subscripts } }

-- ---- locks between terminals

record Conflicts : Type 0 where
  ancestor_conflicts : is_conflict (held 2 (alice [])) (held 1 (alice (codes "1" ∷ []))) ≡ true
  descendant_conflicts : is_conflict (held 2 (alice (codes "1" ∷ codes "5" ∷ []))) (held 1 (alice (codes "1" ∷ []))) ≡ true
  same_name_conflicts : is_conflict (held 2 (alice (codes "1" ∷ []))) (held 1 (alice (codes "1" ∷ []))) ≡ true
  siblings_do_not : is_conflict (held 2 (alice (codes "1" ∷ []))) (held 1 (alice (codes "2" ∷ []))) ≡ false
  longer_text_does_not : is_conflict (held 2 (alice (codes "1" ∷ []))) (held 1 (alice (codes "15" ∷ []))) ≡ false
  accounts_never : is_conflict (held 2 (global (codes "BOB") [])) (held 1 (alice [])) ≡ false
  kinds_never : is_conflict (held 2 (local [])) (held 1 (alice [])) ≡ false

conflicts : Conflicts
conflicts = search rules

own_never : (t : ℕ) (a b : LockName) → is_conflict (held t a) (held t b) ≡ false
own_never t a b = ap (λ same. not same && (is_within a b || is_within b a)) (T_true _ (yes_eqb {a = t} {b = t} refl))
  where
    T_true : (b : Bool) → T b → b ≡ true
    T_true true h = refl
    T_true false h = absurd h
