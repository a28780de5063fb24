-- SPDX-License-Identifier: Apache-2.0
-- What the statements are compiled to.
use Rattle.mstore.proofs.Words.{◌≡◌, ℕ, Bool, List, [], ◌∷◌, codes, Ok, refl, pos, negsuc, true, false, Some, None, Query, inner, end, lit, col, op2, Source}
use Rattle.mstore.proofs.Words.{Command, Key, Binary, Null, Int, Compare, Eq, Ge, Lt, Abort, Select, Insert, InsertOr, Update, Delete, IsPlain, command_of}
use Rattle.mstore.proofs.Words.{Upsert, Program, Values, everything, understood, reads_listing, version_name, node, meta, schema, NodeTable, MetaTable, Add}
use Rattle.mstore.proofs.Words.{Ahead, Get, Put, Kill, Replace, Which, Each, sql, Statement, Step, Term}
use Rattle.sqlite.specs.Compile.{table_defined_by}

pub node_is : table_defined_by (sql NodeTable) ≡ Ok node
unfolding everything
node_is = refl

pub meta_is : table_defined_by (sql MetaTable) ≡ Ok meta
unfolding everything
meta_is = refl

-- every row of one table that passes the tests, in an order
abbrev pub table_query : ℕ → List Term → List Term → List (Term × Key) → Query
table_query tree filter project order = record {
  from = inner tree end;
  filter = filter;
  group = None;
  project = project;
  distinct = false;
  collations = [];
  order = order;
  limit = lit (Int (negsuc 0));
  offset = lit (Int (pos 0));
}

abbrev pub program : Query → Program
program q = record { lets = []; body = q }

abbrev pub at_key : List Term
at_key = op2 (Compare Eq Binary) (col 1 1) (col 0 0) ∷ []

abbrev pub in_range : List Term
in_range = op2 (Compare Ge Binary) (col 1 1) (col 0 0) ∷ op2 (Compare Lt Binary) (col 1 1) (col 0 1) ∷ []

abbrev pub at_rowid : List Term
at_rowid = op2 (Compare Eq Binary) (col 1 0) (col 0 2) ∷ []

abbrev pub by_key : Bool → List (Term × Key)
by_key down = (col 1 1, record { collation = Binary; descending = down }) ∷ []

-- the statement is this command, of the schema as it is
abbrev pub Compiles : Statement → Command → Type 0
Compiles s command = (command_of (understood schema (sql s)) ≡ command) × IsPlain (understood schema (sql s))

-- and reads no list of objects
abbrev pub Asks : Statement → Command → Type 0
Asks s command = (command_of (understood schema (sql s)) ≡ command) × IsPlain (understood schema (sql s)) × (reads_listing schema (sql s) ≡ false)

abbrev pub get_command : Command
get_command = Select (program (table_query 0 at_key (col 1 2 ∷ []) [])) (codes "v" ∷ [])

pub get_is : Asks Get get_command
unfolding understood everything
get_is = (refl, (refl, refl), refl)

abbrev pub put_query : Query
put_query = table_query 0 at_rowid (col 1 0 ∷ col 1 0 ∷ col 1 1 ∷ col 0 5 ∷ []) []

abbrev pub put_clauses : List Upsert
put_clauses = record { target = Some (1 ∷ []); update = Some (program put_query) } ∷ []

abbrev pub put_source : Source
put_source = Values (lit Null ∷ col 0 0 ∷ col 0 1 ∷ []) 3

abbrev pub put_command : Command
put_command = InsertOr 0 Abort put_source put_clauses

pub put_is : Compiles Put put_command
unfolding understood everything
put_is = (refl, (refl, refl))

-- a row of a key that no row has
abbrev pub add_command : Command
add_command = Insert 0 put_source

pub add_is : Compiles Add add_command
unfolding understood everything
add_is = (refl, (refl, refl))

-- the row of a key with another value
abbrev pub replace_query : Query
replace_query = table_query 0 at_key (col 1 0 ∷ col 1 0 ∷ col 1 1 ∷ col 0 1 ∷ []) []

abbrev pub replace_command : Command
replace_command = Update 0 (program replace_query)

pub replace_is : Compiles Replace replace_command
unfolding understood everything
replace_is = (refl, (refl, refl))

abbrev pub kill_query : Query
kill_query = table_query 0 in_range (col 1 0 ∷ []) []

abbrev pub kill_command : Command
kill_command = Delete 0 (program kill_query)

pub kill_is : Compiles Kill kill_command
unfolding understood everything
kill_is = (refl, (refl, refl))

abbrev pub step_query : Bool → Query
step_query down = table_query 0 in_range (col 1 1 ∷ []) (by_key down)

abbrev pub step_command : Bool → Command
step_command down = Select (program (step_query down)) (codes "k" ∷ [])

pub step_is : (down : Bool) → Asks (Step down) (step_command down)
unfolding understood everything
step_is false = (refl, (refl, refl), refl)
step_is true = (refl, (refl, refl), refl)

-- as many of the rows of a range, in the order of their keys, as the third parameter says
abbrev pub ahead_query : Query
ahead_query = record (table_query 0 in_range (col 1 1 ∷ col 1 2 ∷ []) (by_key false)) { limit = col 0 2 }

abbrev pub ahead_command : Command
ahead_command = Select (program ahead_query) (codes "k" ∷ codes "v" ∷ [])

pub ahead_is : Asks Ahead ahead_command
unfolding understood everything
ahead_is = (refl, (refl, refl), refl)

abbrev pub all_command : Command
all_command = Select (program (table_query 0 [] (col 1 0 ∷ col 1 1 ∷ col 1 2 ∷ []) [])) (codes "rowid" ∷ codes "k" ∷ codes "v" ∷ [])

pub all_is : Asks Each all_command
unfolding understood everything
all_is = (refl, (refl, refl), refl)

-- the row of a name
abbrev pub at_name : List Term
at_name = op2 (Compare Eq Binary) (col 1 1) (lit version_name) ∷ []

abbrev pub which_command : Command
which_command = Select (program (table_query 2 at_name (col 1 0 ∷ col 1 2 ∷ []) [])) (codes "rowid" ∷ codes "n" ∷ [])

pub which_is : Asks Which which_command
unfolding understood everything
which_is = (refl, (refl, refl), refl)
