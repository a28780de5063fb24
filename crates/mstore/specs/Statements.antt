-- SPDX-License-Identifier: Apache-2.0
-- The statements by which a table is made, read and written.
use Rattle.std.specs.Prelude.{◌≡◌, ◌≢◌, ◌⊎◌, ℕ, Bool, true, false, nat_lt, List, [], ◌∷◌, codes, Option, Some, None, Result, Ok, Err}
use Rattle.sqlite.specs.Order.{Row}
use Rattle.sqlite.specs.Schema.{Schema}
use Rattle.sqlite.specs.declared.error.Error.{Error}
use Rattle.sqlite.specs.declared.error.Error.TheVariants.{QueryReturnedNoRows, SqliteFailure}
use Rattle.sqlite.specs.declared.error.ErrorCode.TheVariants.{ConstraintViolation, OutOfMemory}
use Rattle.sqlite.specs.Listing.{understood}
use Rattle.sqlite_resolve.specs.declared.error.CompileError.{CompileError}
use Rattle.sqlite_rules.specs.Lists.{Has}
use Rattle.sqlite_schema.specs.declared.schema.Constraint.{Constraint}
use Rattle.mnodes.specs.declared.store.StoreFault.{StoreFault}
use Rattle.mnodes.specs.declared.store.StoreFault.TheVariants.{Store}

-- what each is for; those from Which on are for the opening, and Set for a store of version 1
pub data Statement : Type 0 where
  -- both tables, and the version of the new ones
  NodeTable : Statement
  MetaTable : Statement
  Version : Statement
  -- the value at a key; a value put at a key, or in the place of the one there; the rows of a range of keys removed
  Get : Statement
  Put : Statement
  Kill : Statement
  -- a value put at a key that has none, and one put in the place of the value at a key
  Add : Statement
  Replace : Statement
  -- the first key of a range, and the last; and the first rows of a range, up to a limit
  Step : Bool → Statement
  Ahead : Statement
  -- the version; each row; and the version that it gets
  Which : Statement
  Each : Statement
  Set : Statement

abbrev pub sql : Statement → List ℕ
sql NodeTable = codes "CREATE TABLE node (k BLOB PRIMARY KEY NOT NULL, v BLOB NOT NULL)"
sql MetaTable = codes "CREATE TABLE meta (name TEXT PRIMARY KEY, n INTEGER)"
sql Version = codes "INSERT INTO meta (name, n) VALUES ('version', 2)"
sql Get = codes "SELECT v FROM node WHERE k = ?1"
sql Put = codes "INSERT INTO node (k, v) VALUES (?1, ?2) ON CONFLICT (k) DO UPDATE SET v = excluded.v"
sql Kill = codes "DELETE FROM node WHERE k >= ?1 AND k < ?2"
sql Add = codes "INSERT INTO node (k, v) VALUES (?1, ?2)"
sql Replace = codes "UPDATE node SET v = ?2 WHERE k = ?1"
sql (Step false) = codes "SELECT k FROM node WHERE k >= ?1 AND k < ?2 ORDER BY k"
sql (Step true) = codes "SELECT k FROM node WHERE k >= ?1 AND k < ?2 ORDER BY k DESC"
sql Ahead = codes "SELECT k, v FROM node WHERE k >= ?1 AND k < ?2 ORDER BY k LIMIT ?3"
sql Which = codes "SELECT rowid, n FROM meta WHERE name = 'version'"
sql Each = codes "SELECT rowid, k, v FROM node"
sql Set = codes "UPDATE meta SET n = 2 WHERE name = 'version'"

-- those that a database has to take
abbrev pub statements : List (List ℕ)
statements = sql Get ∷ sql Put ∷ sql Kill ∷ sql (Step false) ∷ sql (Step true) ∷ sql Which ∷ sql Each ∷ []

-- the columns do not take one of them
abbrev pub RefusesOne : Schema → Type 0
RefusesOne schema = (text : List ℕ) × Has statements text × (fault : CompileError) × (understood schema text ≡ Err fault)

-- ---- what came of one

-- the row of an answer, and none if the answer has none
abbrev pub Gives : Result Row Error → Option Row → Type 0
Gives answer None = answer ≡ Err QueryReturnedNoRows
Gives answer (Some row) = answer ≡ Ok row

-- an error, but not that memory ran out
abbrev pub IsRefusal : {X : Type 0} → Result X Error → Type 0
IsRefusal (Ok x) = ⊥
IsRefusal (Err e) = e ≢ SqliteFailure OutOfMemory

-- a row is in the way, or breaks another rule of the table
abbrev pub IsConstraint : Error → Type 0
IsConstraint e = (rule : Constraint) × (e ≡ SqliteFailure (ConstraintViolation rule))

abbrev pub IsFault : Error → Result Bool StoreFault → Type 0
IsFault e result = (fault : StoreFault) × (result ≡ Err fault) × (fault ≡ Store → e ≢ SqliteFailure OutOfMemory)

-- whether a change met a row
abbrev pub MeetsRow : Result ℕ Error → Result Bool StoreFault → Type 0
MeetsRow (Ok count) result = result ≡ Ok (nat_lt 0 count)
MeetsRow (Err e) result = IsFault e result

-- whether a row was put, or one was in the way
abbrev pub AddsRow : Result ℕ Error → Result Bool StoreFault → Type 0
AddsRow (Ok count) result = result ≡ Ok true
AddsRow (Err e) result = (IsConstraint e × (result ≡ Ok false)) ⊎ ((IsConstraint e → ⊥) × IsFault e result)

-- it was done and put what it had to put
abbrev pub is_put : Result Bool StoreFault → Bool
is_put (Ok put) = put
is_put (Err fault) = false
