-- SPDX-License-Identifier: Apache-2.0
-- What the two files of a table hold, the database file and its log: as a table is opened, and once it is closed.
use Rattle.std.specs.Prelude.{◌≡◌, ◌⊎◌, []}
use Rattle.std.specs.FinMap.{empty}
use Rattle.sqlite_disk.specs.declared.Disk.{Ghosts}
use Rattle.sqlite_disk.specs.declared.Files.{Files}
use Rattle.sqlite.specs.Recovery.{Image}
use Rattle.sqlite.specs.Closing.{HoldsAlone}
use Rattle.sqlite.specs.Effect.{Database, IsDatabase}
use Rattle.sqlite.specs.Files.{AreFoundIn, HoldsDatabase, image_of}
use Rattle.sqlite.specs.WalFiles.{outcomes}
use Rattle.sqlite.specs.Tree.{Trees}
use Rattle.mspec.specs.Globals.{Globals}
use Rattle.mkey.specs.Key.{old_digits}
use Rattle.mstore.specs.Database.{HasVersion, old_version, this_version}
use Rattle.mstore.specs.Keyed.{globals_by}
use Rattle.mstore.specs.Layout.{no_schema, schema}
use Rattle.mstore.specs.Rows.{key_of, value_of}
use Rattle.mstore.specs.Versions.{HoldBy}

-- the database is a table of this version, and its rows are these globals
pub record IsTableOf (db : Database) (globals : Globals) : Type 0 where
  pub sound : IsDatabase db
  pub schema_is : db.schema ≡ schema
  pub version : HasVersion db this_version
  pub rows : globals ≡ globals_by key_of value_of (db.trees 0)

-- the two files hold such a database, and so does the database file with no log
pub record HoldsTable (image : Image) (globals : Globals) : Type 0 where
  pub db : Database
  pub table : IsTableOf db globals
  pub held : HoldsAlone image db.trees

-- What is taken over from a database: nothing from one that has no table; its globals from a table of this version; and from one of version 1
-- those that its rows held by the keys of that version.
abbrev pub GivesGlobals : Database → Globals → Type 0
GivesGlobals db globals =
    ((db.schema ≡ no_schema) × (globals ≡ empty))
    ⊎ (IsTableOf db globals ⊎ ((db.schema ≡ schema) × HasVersion db old_version × HoldBy old_digits (db.trees 0) globals))

-- What an opening makes of two files: it finds the one database that they hold, or none where none has been made yet, and takes these globals over.
pub record FindsTable (image : Image) (globals : Globals) : Type 0 where
  pub db : Database
  pub sound : IsDatabase db
  pub found : AreFoundIn image db.trees
  pub holds : (trees : Trees) → HoldsDatabase image trees → db.trees ≡ trees
  pub gives : GivesGlobals db globals

-- What a closing leaves in two files, as they read, and whatever a crash of the machine makes of them.
pub record LeavesTable {D : Type 0} (g : Ghosts D) (files : Files D) (globals : Globals) : Type 0 where
  pub seen : HoldsTable (image_of g files) globals
  pub left : (image : Image) → outcomes g files.log files.db image → HoldsTable image globals

-- ---- laws

-- from a new file, or an empty one, an opening takes nothing
abbrev pub NewFilesAreEmpty : Type 0
NewFilesAreEmpty = (image : Image) (globals : Globals) → image.db ≡ [] → FindsTable image globals → globals ≡ empty

-- from files that hold a table, it takes that table's globals, and no others
abbrev pub TablesAreFound : Type 0
TablesAreFound = (image : Image) (held found : Globals) → HoldsTable image held → FindsTable image found → found ≡ held
