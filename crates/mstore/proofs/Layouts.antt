-- SPDX-License-Identifier: Apache-2.0
-- The schema of a store, written out.
use Rattle.mstore.proofs.Words.{◌≡◌, true, false, [], ◌∷◌, codes, refl, Integer, Any, column_of, table_of, index_of, schema}
use Rattle.std.specs.Fmt.{digits}
use Rattle.sqlite.specs.Kind.TheVariants.{Text}

pub schema_is : schema ≡ record {
  tables = table_of (codes "node") 0 (column_of (codes "k") Any true ∷ column_of (codes "v") Any true ∷ [])
      ∷ table_of (codes "meta") 2 (column_of (codes "name") Text false ∷ column_of (codes "n") Integer false ∷ []) ∷ [];
  indexes = index_of (codes "sqlite_autoindex_node_1") 1 0 ∷ index_of (codes "sqlite_autoindex_meta_1") 3 2 ∷ [];
  views = [];
}
unfolding digits
schema_is = refl
