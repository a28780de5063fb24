-- SPDX-License-Identifier: Apache-2.0
-- A database that has the two tables beside others.
use Rattle.std.specs.Prelude.{◌≡◌, ◌==◌, ◌&&◌, ◌⊎◌, ℕ, List, ◌∷◌, [], codes, Bool, true, false, not}
use Rattle.std.specs.List.{list_any}
use Rattle.sqlite_schema.specs.declared.schema.Index.{Index}
use Rattle.sqlite_schema.specs.declared.schema.Reference.{Reference}
use Rattle.sqlite_schema.specs.Names.{same_name}
use Rattle.sqlite.specs.Kind.TheVariants.{Integer, Text, Any}
use Rattle.sqlite.specs.Table.{Table}
use Rattle.sqlite.specs.Schema.{Schema}
use Rattle.sqlite_rules.specs.Lists.{Has}
use Rattle.mstore.specs.Layout.{column_of, table_of}

abbrev pub has_table : Schema → List ℕ → Bool
has_table schema name = list_any (λ t. same_name t.name name) schema.tables

-- a foreign key of the table refers to one of that name
abbrev pub refers : Table → List ℕ → Bool
refers t name = list_any (λ (r : Reference). same_name r.parent name) t.references

abbrev pub is_referred : Schema → List ℕ → Bool
is_referred schema name = list_any (λ t. refers t name) schema.tables

-- an index of the table with this number that allows no two rows alike, beside the table's own
abbrev pub is_further : ℕ → List ℕ → Index → Bool
is_further tree own i = i.table == tree && i.is_unique && not (same_name i.name own)

abbrev pub is_restricted : Schema → ℕ → List ℕ → Bool
is_restricted schema tree own = list_any (is_further tree own) schema.indexes

-- the two tables as they are made here, whatever their numbers
abbrev pub node_at : ℕ → Table
node_at tree = table_of (codes "node") tree (column_of (codes "k") Any true ∷ column_of (codes "v") Any true ∷ [])

abbrev pub meta_at : ℕ → Table
meta_at tree = table_of (codes "meta") tree (column_of (codes "name") Text false ∷ column_of (codes "n") Integer false ∷ [])

-- one of the tables is made like this, and only its own index forbids rows
pub record HasMade (schema : Schema) (made : ℕ → Table) (own : List ℕ) : Type 0 where
  pub tree : ℕ
  pub there : Has schema.tables (made tree)
  pub free : is_restricted schema tree own ≡ false

abbrev pub HasNode : Schema → Type 0
HasNode schema = HasMade schema node_at (codes "sqlite_autoindex_node_1")

abbrev pub HasMeta : Schema → Type 0
HasMeta schema = HasMade schema meta_at (codes "sqlite_autoindex_meta_1")

abbrev pub HasBoth : Schema → Type 0
HasBoth schema = HasNode schema × HasMeta schema

abbrev pub HasNeither : Schema → Type 0
HasNeither schema = (has_table schema (codes "node") ≡ false) × (has_table schema (codes "meta") ≡ false)

abbrev pub IsUnreferred : Schema → Type 0
IsUnreferred schema = (is_referred schema (codes "node") ≡ false) × (is_referred schema (codes "meta") ≡ false)

-- both tables are there or neither is, and no other table refers to one of them
pub record IsBeside (schema : Schema) : Type 0 where
  pub unreferred : IsUnreferred schema
  pub both : HasNeither schema ⊎ HasBoth schema
