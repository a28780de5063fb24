-- SPDX-License-Identifier: Apache-2.0
-- A binary search over the rows of a tree.
use Rattle.std.specs.Prelude.{◌≡◌, ℕ, ◌+◌, Bool, true, false, not, List, ◌∷◌, slice_get, Some}
use Rattle.std.specs.Ordering.{is_lt, is_gt, is_eq}
use Rattle.std.specs.List.{AllByRecursion}
use Rattle.sqlite_value.specs.Value.{owned}
use Rattle.sqlite_value.specs.Order.{Row, value_cmp}
use Rattle.sqlite_value.specs.Keys.{entry_cmp, prefix_cmp}
use Rattle.sqlite_trees.specs.Tree.{rowid, IsAscending}
use Rattle.mmemory.specs.declared.probe.Probe.{Probe}
use Rattle.mmemory.specs.declared.probe.Probe.TheVariants.{BelowKey, UpToKey, BelowRowid, BelowEntry}

abbrev pub passes : Probe → Row → Bool
passes (BelowKey o key) row = is_lt (prefix_cmp o row key.now)
passes (UpToKey o key) row = not (is_gt (prefix_cmp o row key.now))
passes (BelowRowid id) row = is_lt (value_cmp (rowid row) (owned id))
passes (BelowEntry o entry) row = is_lt (entry_cmp o row entry.now)

-- the row is what is sought
abbrev pub meets : Probe → Row → Bool
meets (BelowKey o key) row = false
meets (UpToKey o key) row = false
meets (BelowRowid id) row = is_eq (value_cmp (rowid row) (owned id))
meets (BelowEntry o entry) row = is_eq (entry_cmp o row entry.now)

-- the part before the place passes, and the one at it fails
pub record IsEdge {T : Type 0} (test : T → Bool) (parts : List T) (at : ℕ) : Type 0 where
  pub last : (k : ℕ) (part : T) → k + 1 ≡ at → slice_get parts k ≡ Some part → test part ≡ true
  pub first : (part : T) → slice_get parts at ≡ Some part → test part ≡ false

-- each row before one that passes passes too
abbrev pub Falls : (Row → Bool) → List Row → Type 0
Falls test = IsAscending (λ a b. test b ≡ true → test a ≡ true)

-- the rows in front pass, and the others fail
pub record Splits (test : Row → Bool) (front back : List Row) : Type 0 where
  pub passed : AllByRecursion (λ row. test row ≡ true) front
  pub failed : AllByRecursion (λ row. test row ≡ false) back

-- the first row is what is sought, and goes, or it is not, and stays
abbrev pub Skips : (Row → Bool) → List Row → List Row → Bool → Type 0
Skips test back rest true = (found : Row) × (back ≡ found ∷ rest) × (test found ≡ true)
Skips test back rest false = (back ≡ rest) × ((found : Row) (more : List Row) → back ≡ found ∷ more → test found ≡ false)
