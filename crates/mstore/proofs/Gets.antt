-- SPDX-License-Identifier: Apache-2.0
-- What `get` finds.
use Rattle.mstore.proofs.Words.{◌≡◌, ℕ, List, [], ◌∷◌, Some, None, Ok, Err, refl, sym, ap, subst, ◌∙◌, inl, Null, Blob, Row, State, QueryReturnedNoRows}
use Rattle.mstore.proofs.Words.{first_as, reads_as, same_bytes, QueriesRow, schema, IsStore, content, key_of, value_of, Get, sql}
use Rattle.mstore.proofs.Texts.{get_is, get_command, at_key}
use Rattle.mstore.proofs.Answer.{rows_from, rows_to}
use Rattle.mstore.proofs.Maps.{lookup_has, lookup_none, at_itself}
use Rattle.mstore.proofs.States.{asks_plain, no_row_is}
use Rattle.mstore.proofs.RowTests.{at_key_is, value_column}

pub gets : (old new : State) (k : List ℕ) (row : Row) → IsStore old → QueriesRow (sql Get) (Blob k ∷ []) old new (Ok row)
    → (v : List ℕ) × (row ≡ Blob v ∷ []) × (content old k ≡ Some v)
gets old new k row store h =
    let nodes = store.nodes in
    let got = (first_as (sql Get) (Blob k ∷ []) old new schema store.calm.schema_is get_command get_is.0 get_is.1 get_is.2 row h).1 in
    let it = rows_from at_key (Blob k ∷ []) (Rattle.sqlite.specs.Term.col 1 2 ∷ []) [] old.now.trees 0 refl (row ∷ got.0) (got.1 Null) row (inl refl) in
    let node = nodes.each it.0 it.1 in
    let same = same_bytes (key_of it.0) k (sym (at_key_is k it.0 node) ∙ it.2) in
    (value_of it.0, it.3 ∙ ap (λ v. v ∷ []) (value_column it.0 node), subst (λ q. content old q ≡ Some (value_of it.0)) same (lookup_has (old.now.trees 0) it.0 nodes it.1))

pub gets_none : (old new : State) (k : List ℕ) → IsStore old → QueriesRow (sql Get) (Blob k ∷ []) old new (Err QueryReturnedNoRows) → content old k ≡ None
gets_none old new k store h =
    let nodes = store.nodes in
    let shown = no_row_is (sql Get) (Blob k ∷ []) old new (asks_plain Get get_command get_is old store.calm.schema_is) h in
    let a = (reads_as (sql Get) (Blob k ∷ []) old new schema store.calm.schema_is get_command get_is.0 get_is.1 get_is.2 [] shown).answer Null in
    lookup_none (old.now.trees 0) k (λ r has same.
    rows_to at_key (Blob k ∷ []) (Rattle.sqlite.specs.Term.col 1 2 ∷ []) [] old.now.trees 0 refl [] a r has (at_key_is k r (nodes.each r has) ∙ at_itself r k same))
