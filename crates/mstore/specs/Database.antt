-- SPDX-License-Identifier: Apache-2.0
-- What a connection holds if its database is that of a table, and what a call leaves of it.
use Rattle.std.specs.Prelude.{◌≡◌, ◌≢◌, ◌⊎◌, ◌||◌, ◌≤◌, ℕ, ℤ, pos, Bool, if◌then◌else◌, List, ◌∷◌, [], codes, false, Option, Some, None, IsTrue, refl}
use Rattle.std.specs.Coded.{Coded, code_by, coded×, coded_bool, coded_ℕ}
use Rattle.sqlite_schema.specs.declared.schema.Schema.{Schema}
use Rattle.sqlite_value.specs.declared.value.Value.{Value}
use Rattle.sqlite_value.specs.declared.value.Value.TheVariants.{Int, Text}
use Rattle.sqlite_value.specs.Order.{Row, column}
use Rattle.sqlite_trees.specs.View.{IsClean}
use Rattle.sqlite_trees.specs.declared.store.Store.{Ghosts}
use Rattle.sqlite_rules.specs.Lists.{Has}
use Rattle.sqlite.specs.State.{State}
use Rattle.sqlite.specs.Effect.{Database}
use Rattle.sqlite.specs.Held.{Held, held_code, state}
use Rattle.mspec.specs.Globals.{Globals}
use Rattle.mnodes.specs.Doubt.{shut}
use Rattle.mstore.specs.Beside.{has_table}
use Rattle.mstore.specs.Layout.{schema, no_schema}
use Rattle.mstore.specs.Keyed.{globals_by}
use Rattle.mstore.specs.Map.{Content}
use Rattle.mstore.specs.Rows.{AreNodes, ShowsNode, ShowsNodeBy, HasOther, HasOtherBy, key_of, value_of, lookup, shown_of}
use Rattle.mstore.specs.Versions.{HoldBy}
use Rattle.mkey.specs.Key.{old_digits}
use Rattle.mstore.specs.Statements.{RefusesOne}

-- The store beneath is memory, which never loses what it holds.
pub record IsMemory {S : Type 0} (g : Ghosts S) : Type 0 where
  pub clean : (s : S) → IsClean (g.view s)
  pub is_open : (s : S) → IsTrue (g.view s).is_open

-- How far what is said of a connection can be relied on, as `Doubt` of mnodes counts: it is clean and open, or shut, or not clean.
abbrev pub doubt_as : Bool → Bool → ℕ
doubt_as is_clean is_open = if is_clean then (if is_open then 0 else 1) else 2

abbrev pub doubt_in : State → ℕ
doubt_in s = doubt_as s.is_clean s.is_open

abbrev pub doubt_of : {S : Type 0} → Ghosts S → Held S → ℕ
doubt_of g h = doubt_in (state g h)

-- between statements, outside a transaction
pub record IsIdle (s : State) : Type 0 where
  pub autocommit : s.in_transaction ≡ false
  pub settled : s.now ≡ s.committed

-- and with both tables
pub record IsCalm (s : State) : Type 0 where
  pub idle : IsIdle s
  pub schema_is : s.now.schema ≡ schema

-- and with no table
pub record IsBlank (s : State) : Type 0 where
  pub idle : IsIdle s
  pub schema_is : s.now.schema ≡ no_schema

-- ---- the version

abbrev pub version_name : Value
version_name = Text (codes "version")

-- the version of the tables that are made here
abbrev pub this_version : Value
this_version = Int (pos 2)

-- the version whose numbers kept fifteen digits
abbrev pub old_version : Value
old_version = Int (pos 1)

-- a row gives the version
abbrev pub GivesVersion : Database → Value → Type 0
GivesVersion db v = (r : Row) × Has (db.trees 2) r × (column r 1 ≡ version_name) × (column r 2 ≡ v)

-- no two rows do
abbrev pub IsOneVersion : Database → Type 0
IsOneVersion db = (r s : Row) → Has (db.trees 2) r → Has (db.trees 2) s → column r 1 ≡ version_name → column s 1 ≡ version_name → r ≡ s

-- one row gives a version, and it is this one
abbrev pub HasVersion : Database → Value → Type 0
HasVersion db v = GivesVersion db v × IsOneVersion db

-- ---- a database of a table

-- both tables, with this version, and the rows are a map
pub record IsStore (s : State) : Type 0 where
  pub calm : IsCalm s
  pub version : HasVersion s.now this_version
  pub nodes : AreNodes (s.now.trees 0)

abbrev pub content : State → Content
content s = lookup (s.now.trees 0)

abbrev pub holds : {S : Type 0} → Ghosts S → Held S → Content
holds g h = content (state g h)

-- the globals that the rows are
abbrev pub stored : {S : Type 0} → Ghosts S → Held S → Globals
stored g h = globals_by key_of value_of ((state g h).now.trees 0)

-- ---- a table over a connection

pub record TableOver (S : Type 0) : Type 0 where
  pub conn : Held S
  -- the database has the two tables and no other
  pub is_alone : Bool
  -- how many numbers its rows may have got
  pub numbers : ℕ

abbrev pub table_code : {S : Type 0} → Coded S → Coded (TableOver S)
table_code {S} store = code_by (Held S × (Bool × ℕ)) (coded× (held_code store) (coded× coded_bool coded_ℕ)) (λ t. (t.conn, (t.is_alone, t.numbers))) (λ p. record { conn = p.0; is_alone = p.1.0; numbers = p.1.1 }) (λ _. refl)

-- nothing is said yet of a table beside others
abbrev pub table_doubt : {S : Type 0} → Ghosts S → TableOver S → ℕ
table_doubt g t = if t.is_alone then doubt_of g t.conn else 2

-- ---- after a call

-- what the database holds is as it was
pub record Stays (old new : State) : Type 0 where
  pub idle : IsIdle new
  pub same : new.now ≡ old.now

-- What a statement does to the doubt: it never falls, and one that was done on a store leaves it open.
pub record DoubtsStore {S : Type 0} (g : Ghosts S) (old new : Held S) (is_done : Bool) : Type 0 where
  pub order : doubt_of g old ≤ doubt_of g new
  pub failed : IsStore (state g old) → doubt_of g new ≡ shut → is_done ≡ false

-- the rows of the nodes
abbrev pub node_rows : {S : Type 0} → Ghosts S → Held S → List Row
node_rows g h = (state g h).now.trees 0

-- and a table is still one
abbrev pub IsKept : {S : Type 0} → Ghosts S → Held S → Held S → Type 0
IsKept g old new = IsStore (state g old) → doubt_of g new ≡ 0 → IsStore (state g new) × (stored g new ≡ stored g old) × (node_rows g new ≡ node_rows g old)

-- all that the database holds, what is committed and whether a transaction is open is as it was
pub record IsUntouched (old new : State) : Type 0 where
  pub now : new.now ≡ old.now
  pub committed : new.committed ≡ old.committed
  pub mode : new.in_transaction ≡ old.in_transaction

-- the rows show each node, and nothing else
pub record ShowsAll (s : State) (shown : List Row) : Type 0 where
  pub each : (r : Row) → Has (s.now.trees 0) r → Has shown (shown_of r)
  pub only : (row : Row) → Has shown row → (r : Row) × Has (s.now.trees 0) r × (row ≡ shown_of r)

-- each row is a key and a value in form
abbrev pub ShowsNodes : Database → Type 0
ShowsNodes db = (r : Row) → Has (db.trees 0) r → ShowsNode (shown_of r)

abbrev pub ShowsNodesBy : ℕ → Database → Type 0
ShowsNodesBy kept db = (r : Row) → Has (db.trees 0) r → ShowsNodeBy kept (shown_of r)

-- ---- what is read of the version

abbrev pub HasNoVersion : Database → Type 0
HasNoVersion db = (r : Row) → Has (db.trees 2) r → column r 1 ≢ version_name

-- each row that gives a version has this rowid and gives this one
abbrev pub AllGive : Database → Value → Value → Type 0
AllGive db id v = (r : Row) → Has (db.trees 2) r → column r 1 ≡ version_name → (column r 0 ≡ id) × (column r 2 ≡ v)

abbrev pub OnlyGives : Database → Value → Type 0
OnlyGives db v = (n : ℤ) × AllGive db (Int n) v

-- the row shows the version, and there is none if no row gives one
abbrev pub ShowsVersion : Database → Option Row → Type 0
ShowsVersion db None = HasNoVersion db
ShowsVersion db (Some row) = (id : Value) × (v : Value) × (row ≡ id ∷ v ∷ []) × GivesVersion db v × AllGive db id v

-- both tables are there, with the version and no node
pub record IsBare (db : Database) : Type 0 where
  pub schema_is : db.schema ≡ schema
  pub empty : db.trees 0 ≡ []
  pub version : HasVersion db this_version

-- ---- a database that is opened

-- it has one of the two tables, and columns that do not take one of the statements
abbrev pub RefusesColumns : Schema → Type 0
RefusesColumns schema = IsTrue (has_table schema (codes "node") || has_table schema (codes "meta")) × RefusesOne schema

-- why a database is of no version that is opened: its columns, or it gives no version or another
abbrev pub IsOtherVersion : Database → Type 0
IsOtherVersion db = RefusesColumns db.schema ⊎ ((db.schema ≡ schema) × (HasNoVersion db ⊎ ((v : Value) × GivesVersion db v × (v ≢ this_version) × (v ≢ old_version))))

-- a row is not a node's, by the digits of the version
abbrev pub IsBadlyKeyed : Database → Type 0
IsBadlyKeyed db = (HasVersion db this_version × HasOther (db.trees 0)) ⊎ (HasVersion db old_version × HasOtherBy old_digits (db.trees 0))

-- the globals that the rows are
abbrev pub globals_in : State → Globals
globals_in s = globals_by key_of value_of (s.now.trees 0)

-- a database of version 1 has got this version, and holds the globals that its rows held by the keys of version 1
pub record IsMigrated (old new : State) : Type 0 where
  pub schema_is : old.now.schema ≡ schema
  pub was : HasVersion old.now old_version
  pub is : HasVersion new.now this_version
  pub same : HoldBy old_digits (old.now.trees 0) (globals_in new)

-- a database with no table has got both, one that was a table of this version is as it was, and one of version 1 is migrated
abbrev pub IsOpenedFrom : State → State → Type 0
IsOpenedFrom old new = (IsBlank old × IsBare new.now) ⊎ (((new.now ≡ old.now) × (old.now.schema ≡ schema) × HasVersion old.now this_version) ⊎ IsMigrated old new)
