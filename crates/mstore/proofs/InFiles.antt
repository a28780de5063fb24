-- SPDX-License-Identifier: Apache-2.0
-- What an opening takes from two files, what a closing leaves in them, and that the one finds what the other left.
use Rattle.mstore.proofs.Words.{ℕ, arith, ◌≡◌, ◌∙◌, pos, List, [], ◌∷◌, refl, sym, ap, subst, inl, inr, length, Value, Int, Row, column, Has, Trees, Database}
use Rattle.mstore.proofs.Words.{IsDatabase, Held, State, IsLive, Opens, GivesVersion, HasVersion, IsStore, globals_in, globals_by, key_of, value_of}
use Rattle.mstore.proofs.Words.{old_version, this_version, no_schema, schema, node, stored, Bool, true, false, if◌then◌else◌, IsTrue, TableOver, doubt_of}
use Rattle.mstore.proofs.Words.{table_doubt}
use Rattle.std.proofs.Math.Logic.{∥∥₁_elim}
use Rattle.std.specs.List.{AllZip}
use Rattle.sqlite_disk.specs.declared.Disk as disk
use Rattle.sqlite_disk.specs.declared.Files.{Files}
use Rattle.sqlite.specs.Recovery.{Image}
use Rattle.sqlite.specs.Start.{FindsIn}
use Rattle.sqlite.specs.Closing.{HoldsAlone, IsCopied}
use Rattle.sqlite.specs.Files.{AreFoundIn, file_state, over_files}
use Rattle.sqlite_store.specs.declared.store.FileStore.{FileStore}
use Rattle.sqlite.specs.Table.{Table}
use Rattle.sqlite_catalog.specs.Listing.{IsSound, IsTableRow}
use Rattle.sqlite_trees.specs.Props.{Trees-set}
use Rattle.mstore.specs.Database.{IsOpenedFrom}
use Rattle.mstore.specs.InFiles.{FindsTable, GivesGlobals, HoldsTable, LeavesTable, NewFilesAreEmpty, TablesAreFound}
use Rattle.mstore.proofs.Doubting.{sure_if}
use Rattle.mstore.proofs.Makes.{bare_is_empty, meta_table}
use Rattle.mstore.proofs.States.{same_version}

-- ---- an opening

module _ (image : Image) (old new : State) (opens : Opens old) (live : IsLive old) (finds : FindsIn image old) where
  sound : IsDatabase old.now
  sound = (live opens.is_open).0

  gives : IsOpenedFrom old new → GivesGlobals old.now (globals_in new)
  gives (inl (blank, bare)) = inl (blank.schema_is, bare_is_empty new bare)
  gives (inr (inl (now, is, version))) = inr (inl (record { sound = sound; schema_is = is; version = version; rows = ap (λ (d : Database). globals_by key_of value_of (d.trees 0)) now }))
  gives (inr (inr m)) = inr (inr (m.schema_is, m.was, m.same))

  pub finds_table : IsOpenedFrom old new → FindsTable image (globals_in new)
  finds_table from = record {
    db = old.now;
    sound = sound;
    found = subst (λ (d : Database). AreFoundIn image d.trees) (sym opens.clean) finds.reads;
    holds = λ trees held. ap (λ (d : Database). d.trees) opens.clean ∙ finds.holds trees held;
    gives = gives from;
  }

-- ---- a closing

-- what was copied was clean and open before
pub copied_sure : {D : Type 0} {g : disk.Ghosts D} (c : Held (FileStore D g)) (files : Files D) → IsCopied c files → doubt_of over_files c ≡ 0
copied_sure c files copied = sure_if (file_state c) copied.was_clean copied.was_open

alone_doubt : (is_alone : Bool) (n : ℕ) → IsTrue is_alone → n ≡ 0 → (if is_alone then n else 2) ≡ 0
alone_doubt true n alone sure = sure
alone_doubt false n alone sure = absurd cc

pub alone_sure_if : {D : Type 0} {g : disk.Ghosts D} (t : TableOver (FileStore D g)) → IsTrue t.is_alone → doubt_of over_files t.conn ≡ 0 → table_doubt over_files t ≡ 0
alone_sure_if t alone sure = alone_doubt t.is_alone (doubt_of over_files t.conn) alone sure

module _ {D : Type 0} {g : disk.Ghosts D} (c : Held (FileStore D g)) (files : Files D) (store : IsStore (file_state c)) (live : IsLive (file_state c)) (copied : IsCopied c files) where
  holds_table : (image : Image) → HoldsAlone image (file_state c).committed.trees → HoldsTable image (stored over_files c)
  holds_table image held = record {
    db = (file_state c).now;
    table = record { sound = (live copied.was_open).0; schema_is = store.calm.schema_is; version = store.version; rows = refl };
    held = subst (λ (d : Database). HoldsAlone image d.trees) (sym store.calm.idle.settled) held;
  }

  pub leaves_table : LeavesTable g files (stored over_files c)
  leaves_table = record { seen = holds_table _ copied.seen; left = λ image out. holds_table image (copied.left image out) }

-- ---- the laws

-- a database file with no byte holds no row
none_found : (image : Image) (trees : Trees) → image.db ≡ [] → AreFoundIn image trees → trees 2 ≡ []
none_found image trees none (inl (size, pages, wanted, adopts, ours, reads)) = absurd (omega (arith, adopts.found.present, ap length none))
none_found image trees none (inr (nothing, bare)) = bare.0 2 (omega arith)

no_version : (db : Database) (v : Value) → db.trees 2 ≡ [] → GivesVersion db v → ⊥
no_version db v none has = let there : Has [] has.0 = subst (λ l. Has l has.0) none has.1 in there

pub new_files : NewFilesAreEmpty
new_files image globals none finds = elim finds.gives [
  | inl blank ↦ blank.1
  | inr (inl table) ↦ absurd (no_version finds.db _ (none_found image _ none finds.found) table.version.0)
  | inr (inr (is, old, rows)) ↦ absurd (no_version finds.db _ (none_found image _ none finds.found) old.0)
]

two_values : ◌≡◌ {A = Value} (Int (pos 2)) (Int (pos 1)) → ⊥
two_values e = absurd cc

one_version : (db : Database) → HasVersion db this_version → HasVersion db old_version → ⊥
one_version db new old =
    let same = new.1 new.0.0 old.0.0 new.0.1 old.0.1 new.0.2 old.0.2 in
    two_values (sym new.0.3 ∙ ap (λ (r : Row). column r 2) same ∙ old.0.3)

-- a list of no table is no list of some
two_lists : (rows : List Row) (t : Table) (tables : List Table) → AllZip IsTableRow rows [] → AllZip IsTableRow rows (t ∷ tables) → ⊥
two_lists [] t tables none some = some
two_lists (r ∷ rows) t tables none some = none

two_schemas : (trees : Trees) → IsSound no_schema trees → IsSound schema trees → ⊥
two_schemas trees none two = two_lists _ node (meta_table ∷ []) none.lists.listed.tables two.lists.listed.tables

pub tables_found : TablesAreFound
tables_found image held found h f =
    let same : f.db.trees ≡ h.db.trees = ∥∥₁_elim h.held.both (Trees-set _ _) (λ d. f.holds h.db.trees d) in
    let version : HasVersion f.db this_version = same_version h.db f.db this_version (ap (λ (t : Trees). t 2) same) h.table.version in
    elim f.gives [
      | inl blank ↦ absurd (two_schemas f.db.trees (subst (λ s. IsSound s f.db.trees) blank.0 f.sound)
          (subst (λ t. IsSound schema t) (sym same) (subst (λ s. IsSound s h.db.trees) h.table.schema_is h.table.sound)))
      | inr (inl table) ↦ table.rows ∙ ap (λ (t : Trees). globals_by key_of value_of (t 0)) same ∙ sym h.table.rows
      | inr (inr (is, old, rows)) ↦ absurd (one_version f.db version old)
    ]
