-- SPDX-License-Identifier: Apache-2.0
-- What is counted about the names below a name: how many are held there, and whether by one terminal alone.
--
-- Numbers u are all equal to t exactly if their sum is t times as great as their number, and the sum of their squares t times
-- as great as their sum: the squares of the distances from t then add up to 0.
use Rattle.std.specs.Prelude.{◌≡◌, ◌+◌, ◌*◌, ◌^◌, ◌<◌, ℕ, Bool, cond, not, ◌&&◌, nat_eq, nat_lt, List, unwrap_or}
use Rattle.std.specs.List.{sum_by}
use Rattle.std.specs.Ordering.{eq_by_cmp}
use Rattle.indexmap.specs.IndexMap.{IndexMap, get, ContainsKey, IsUnique}
use Rattle.mspec.specs.LockConflict.{LockName, lock_name_cmp, is_within}
use Rattle.mlock.specs.declared.locks.Holding.{Holding}
use Rattle.mlock.specs.declared.tally.Tally.{Tally}

abbrev pub no_names : Tally
no_names = record { names = 0; terminals = 0; squares = 0 }

-- one more name, which the terminal holds
abbrev pub with_one : ℕ → Tally → Tally
with_one t a = record { names = a.names + 1; terminals = a.terminals + t; squares = a.squares + t * t }

abbrev pub is_only : ℕ → Tally → Bool
is_only t a = nat_eq (a.names * t) a.terminals && nat_eq (a.terminals * t) a.squares

abbrev pub is_none : Tally → Bool
is_none a = nat_eq a.names 0 && (nat_eq a.terminals 0 && nat_eq a.squares 0)

-- one more name fits
abbrev pub HasRoom : Tally → Type 0
HasRoom a = (a.names < 2 ^ 63) × (a.terminals < 2 ^ 127) × (a.squares < 2 ^ 127)

abbrev pub name_eq : LockName → LockName → Bool
name_eq = eq_by_cmp lock_name_cmp

-- the second name is below the first
abbrev pub is_under : LockName → LockName → Bool
is_under a b = is_within a b && not (is_within b a)

module _ {S : Type 0} where
  -- what is kept of the names below a name
  abbrev pub tally_at : IndexMap LockName Tally S → LockName → Tally
  tally_at m n = unwrap_or (get name_eq m n) no_names

  abbrev pub HasEntry : IndexMap LockName Tally S → LockName → Type 0
  HasEntry m n = ContainsKey name_eq m n

-- the sum over the holdings below a name of what a terminal counts for
abbrev pub below_sum : (ℕ → ℕ) → LockName → List (LockName × Holding) → ℕ
below_sum w n es = sum_by (λ e. cond (is_under n e.0) (w e.1.terminal) 0) es

-- what is to be kept
abbrev pub tally_of : List (LockName × Holding) → LockName → Tally
tally_of es n = record { names = below_sum (λ u. 1) n es; terminals = below_sum (λ u. u) n es; squares = below_sum (λ u. u * u) n es }

-- how many holdings have a terminal that does not fit in 32 bits
abbrev pub too_large : List (LockName × Holding) → ℕ
too_large es = sum_by (λ e. cond (nat_lt e.1.terminal (2 ^ 32)) 0 1) es

-- the tallies are those of the holdings
pub record Kept {S R : Type 0} (holdings : IndexMap LockName Holding S) (below : IndexMap LockName Tally R) : Type 0 where
  pub unique : IsUnique name_eq holdings
  pub small : too_large holdings.entries ≡ 0
  pub tied : (n : LockName) → tally_at below n ≡ tally_of holdings.entries n

-- the tallies stay the same
pub record IsRecounted {S : Type 0} (old new : IndexMap LockName Holding S) : Type 0 where
  pub unique : IsUnique name_eq new
  pub small : too_large new.entries ≡ too_large old.entries
  pub same : (n : LockName) → tally_of new.entries n ≡ tally_of old.entries n
