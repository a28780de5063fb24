-- SPDX-License-Identifier: Apache-2.0
-- The laws of locks, as statements. The functions of src/ named after them carry them.
use Rattle.std.specs.Prelude.{◌≡◌, ℕ, ◌+◌, List, length, Some}
use Rattle.std.specs.List.{filter}
use Rattle.std.specs.Ordering.{eq_by_cmp}
use Rattle.mspec.specs.LockConflict.{LockName, lock_name_cmp, Locks, held, count, taken, given_back, released}

-- how often a name occurs in a list
abbrev pub times : LockName → List LockName → ℕ
times n names = length (filter (eq_by_cmp lock_name_cmp n) names)

-- if a list is taken, each count goes up by the number of times that its name occurs there
abbrev pub CountsGoUp : Type 0
CountsGoUp =
    (locks after : Locks) (terminal : ℕ) (names : List LockName) (n : LockName) → taken locks terminal names ≡ Some after →
    count after (held terminal n) ≡ count locks (held terminal n) + times n names

-- what is done for one terminal leaves what others hold unchanged
pub record OthersKeepLocks (locks : Locks) (terminal : ℕ) : Type 0 where
  pub taken : (names : List LockName) (after : Locks) → taken locks terminal names ≡ Some after → released after terminal ≡ released locks terminal
  pub given_back : (n : LockName) → released (given_back locks terminal n) terminal ≡ released locks terminal
  pub released : released (released locks terminal) terminal ≡ released locks terminal
