-- SPDX-License-Identifier: Apache-2.0
-- What a statement that puts a value at a key does to a store, or several of which one puts it.
use Rattle.std.specs.Prelude.{◌≡◌, ◌+◌, ℕ, Bool, true, false, List, None, Result, Err, is_ok}
use Rattle.sqlite_trees.specs.declared.store.Store.{Ghosts}
use Rattle.sqlite.specs.Held.{Held, state}
use Rattle.mnodes.specs.declared.store.StoreFault.{StoreFault}
use Rattle.mnodes.specs.declared.store.StoreFault.TheVariants.{Store}
use Rattle.mstore.specs.Database.{DoubtsStore, IsStore, doubt_of, holds, node_rows}
use Rattle.mstore.specs.Map.{PutsAt}
use Rattle.mstore.specs.Room.{AreUpTo, IsFaultless, is_full}
use Rattle.mstore.specs.Statements.{is_put}

-- the value is put at the key, or the rows are as they were
abbrev pub PutsIf : {S : Type 0} → Ghosts S → Held S → Held S → List ℕ → List ℕ → Bool → Type 0
PutsIf g old new k v true = PutsAt (holds g old) (holds g new) k v
PutsIf g old new k v false = node_rows g new ≡ node_rows g old

-- A put gives at most one number more.
pub record PutsBy {S : Type 0} (g : Ghosts S) (old new : Held S) (k v : List ℕ) (is_done puts : Bool) : Type 0 where
  pub limit : new.step_limit ≡ old.step_limit
  pub doubt : DoubtsStore g old new is_done
  pub store : IsStore (state g old) → doubt_of g new ≡ 0 → IsStore (state g new)
  pub rows : IsStore (state g old) → doubt_of g new ≡ 0 → PutsIf g old new k v puts
  pub numbers : IsStore (state g old) → doubt_of g new ≡ 0 → (n : ℕ) → AreUpTo n (node_rows g old) → AreUpTo (n + 1) (node_rows g new)

-- of one statement, by its result
abbrev pub PutsAs : {S : Type 0} → Ghosts S → Held S → Held S → List ℕ → List ℕ → Result Bool StoreFault → Type 0
PutsAs g old new k v result = PutsBy g old new k v (is_ok result) (is_put result)

-- over a store beneath without faults it is refused only if a row has the last number
abbrev pub FailsIfFull : {S T : Type 0} → Ghosts S → Held S → Held S → Result T StoreFault → Type 0
FailsIfFull g old new result = IsFaultless g → IsStore (state g old) → old.step_limit ≡ None → result ≡ Err Store → is_full (node_rows g new) ≡ true
