-- SPDX-License-Identifier: Apache-2.0
-- When a table has no number for one more row, and the stores beneath over which nothing else refuses a call.
use Rattle.std.specs.Prelude.{◌≡◌, ◌≤◌, ◌+◌, ◌-◌, ◌^◌, ℕ, pos, ◌+ℤ◌, Bool, true, false, IsTrue, refl, not, ◌&&◌, nat_lt, if◌then◌else◌, List}
use Rattle.std.specs.List.{list_any}
use Rattle.sqlite_value.specs.Order.{Row}
use Rattle.sqlite_trees.specs.Tree.{rowid}
use Rattle.sqlite_trees.specs.View.{IsOrdered}
use Rattle.sqlite_trees.specs.Objects.{catalog_tree, IsListed}
use Rattle.sqlite_trees.specs.declared.store.Store.{Ghosts}
use Rattle.sqlite_sql.specs.Ops.{fits_i64}
use Rattle.sqlite_rules.specs.Edit.{id_in}
use Rattle.sqlite_rules.specs.Lists.{Has}
use Rattle.sqlite_trees.proofs.Doubt.{clean_of}
use Rattle.mnodes.specs.Doubt.{Doubts}
use Rattle.mstore.specs.Database.{IsMemory, TableOver, doubt_as, table_doubt}

-- the number of the row is one that a row may have, and so is the next
abbrev pub has_next : Row → Bool
has_next r = fits_i64 (id_in (rowid r)) && fits_i64 (id_in (rowid r) +ℤ pos 1)

-- a row has the last number of all
abbrev pub is_full : List Row → Bool
is_full rows = list_any (λ r. not (has_next r)) rows

-- The store beneath is memory, in which no disk can fail, and its trees are in order and as they are listed.
pub record IsFaultless {S : Type 0} (g : Ghosts S) : Type 0 where
  pub memory : IsMemory g
  pub faultless : (s : S) → g.faults s ≡ 0
  pub ordered : (s : S) → IsOrdered (g.view s).shape (g.view s).trees
  pub listed : (s : S) → IsListed ((g.view s).trees catalog_tree) (g.view s).shape (g.view s).reals

-- the last number that a row may have
abbrev pub last_number : ℕ
last_number = 2 ^ 63 - 1

-- no row has a greater number
abbrev pub AreUpTo : ℕ → List Row → Type 0
AreUpTo n rows = (r : Row) → Has rows r → (m : ℕ) × (id_in (rowid r) ≡ pos m) × (m ≤ n)

-- As many numbers were given at most, unless the count has come to the last one: then nothing is said.
abbrev pub AreCounted : ℕ → List Row → Type 0
AreCounted n rows = IsTrue (nat_lt n last_number) → AreUpTo n rows

-- the count after a row more: the next number, or the last one again
abbrev pub counted_on : ℕ → ℕ
counted_on n = if nat_lt n last_number then n + 1 else n

-- Nothing is said of a table beside others. One alone has room as long as its count is below the last number: a row that is removed may
-- give its number back, but not to the count, so room that is gone does not come back.
abbrev pub has_room : {S : Type 0} → Ghosts S → TableOver S → Bool
has_room g t = t.is_alone && nat_lt t.numbers last_number

-- what a call does to a table's doubt and room
abbrev pub DoubtsTable : {S : Type 0} → Ghosts S → TableOver S → TableOver S → Bool → Type 0
DoubtsTable g old new is_done = Doubts (IsMemory g) (table_doubt g old) (table_doubt g new) (has_room g old) (has_room g new) is_done

-- ---- such a table is in no doubt

sure_as : (is_clean is_open : Bool) → IsTrue is_clean → IsTrue is_open → doubt_as is_clean is_open ≡ 0
sure_as true true h k = refl
sure_as true false h k = absurd (never k)
  where
    never : ◌≡◌ {A = Bool} false true → ⊥
    never e = cc
sure_as false is_open h k = absurd (never h)
  where
    never : ◌≡◌ {A = Bool} false true → ⊥
    never e = cc

alone_is : (is_alone has_room : Bool) (n : ℕ) → IsTrue (is_alone && has_room) → n ≡ 0 → (if is_alone then n else 2) ≡ 0
alone_is true has_room n h e = e
alone_is false has_room n h e = absurd (let clash = h in cc)

pub told_of : {S : Type 0} {g : Ghosts S} → IsFaultless g → (t : TableOver S) → IsTrue (has_room g t) → table_doubt g t ≡ 0
told_of {g = g} beneath t room =
    let v = g.view t.conn.store in
    alone_is t.is_alone (nat_lt t.numbers last_number) _ room (sure_as v.is_clean v.is_open (clean_of v.is_clean (beneath.memory.clean t.conn.store)) (beneath.memory.is_open t.conn.store))
