-- SPDX-License-Identifier: Apache-2.0
-- What `kill` takes out.
use Rattle.mstore.proofs.Words.{◌≡◌, ℕ, ℤ, true, List, [], ◌∷◌, Ok, refl, sym, ap, subst, ◌∙◌, Null, Blob, Row, col, Written, Database, IsAnswer, overlay}
use Rattle.mstore.proofs.Words.{Enforced, Given, rowid, Has, id_in, without_all, ids_of, State, Executes, runs_as, one_step, node, schema, IsIdle, in_bounds}
use Rattle.mstore.proofs.Words.{RemovesWithin, AreRows, lookup, Kill, sql, Trees, edit_of}
use Rattle.std.proofs.Common.{true≢false}
use Rattle.mstore.proofs.Texts.{kill_is, kill_command, kill_query, program, in_range}
use Rattle.mstore.proofs.Answer.{rows_from, rows_to, has_mapped, mapped_has}
use Rattle.mstore.proofs.RowTests.{in_range_is, is_within}
use Rattle.mstore.proofs.Edits.{IsLeft, left_is, left_nodes, lookup_same}
use Rattle.mstore.proofs.Maps.{lookup_none}
use Rattle.mstore.proofs.Puts.{meta_apart}
use Rattle.mstore.proofs.Writes.{went, same_value, deleted, idle_after}

module _ {F : List ℕ → List ℕ → Type 0} (old : State) (has : old.now.schema ≡ schema) (nodes : AreRows F (old.now.trees 0)) (low high : List ℕ) where
  abbrev params : Row
  params = Blob low ∷ Blob high ∷ []

  pub kills : (new : State) (count : ℕ) → Executes (sql Kill) params old new (Ok count)
      → (new.now.schema ≡ schema) × (IsIdle old → IsIdle new) × IsLeft (old.now.trees 0) (new.now.trees 0) (is_within low high) × (new.now.trees 2 ≡ old.now.trees 2)
  kills new count h =
      let rows = old.now.trees 0 in
      let w = runs_as (sql Kill) params old new schema has kill_command kill_is.0 kill_is.1 count h in
      let made = deleted old new has params _ count (program kill_query) w in
      let asked = went made.1 in
      let edited = went asked.2 in
      let edit = edit_of old.now.trees node (ids_of asked.0) Given 0 [] in
      let trees : made.0.trees ≡ edited.0 = ap (λ (it : Written). it.trees) (same_value edited.2) in
      let step = one_step schema Enforced old.now.trees edited.0 edit refl edited.1 in
      let is : made.0.trees 0 ≡ without_all rows (ids_of asked.0) = ap (λ (t : Trees). t 0) trees ∙ step.rows in
      let now : new.now.trees 0 ≡ made.0.trees 0 = ap (λ (d : Database). d.trees 0) made.2 in
      let version : new.now.trees 2 ≡ old.now.trees 2 = ap (λ (d : Database). d.trees 2) made.2 ∙ ap (λ (t : Trees). t 2) trees ∙ step.tables.1.0 meta_apart in
      let a = asked.1.answer Null in
      let left = left_is rows nodes (ids_of asked.0) (is_within low high) (from asked.0 a) (to asked.0 a) in (
        ap (λ (d : Database). d.schema) made.2,
        idle_after old new kill_command _ params count w,
        subst (λ l. IsLeft rows l (is_within low high)) (sym (now ∙ is)) left,
        version,
      )
    where
      from : (asked : List Row) → IsAnswer kill_query (overlay old.now.trees []) params asked → (id : ℤ) → Has (ids_of asked) id
          → (s : Row) × Has (old.now.trees 0) s × (is_within low high s ≡ true) × (id ≡ id_in (rowid s))
      from asked a id among =
          let shown = has_mapped (λ r. id_in (rowid r)) asked id among in
          let it = rows_from in_range params (col 1 0 ∷ []) [] old.now.trees 0 refl asked a shown.0 shown.1 in
          (it.0, it.1, sym (in_range_is low high it.0 (nodes.each it.0 it.1)) ∙ it.2, shown.2 ∙ ap (λ r. id_in (rowid r)) it.3)

      to : (asked : List Row) → IsAnswer kill_query (overlay old.now.trees []) params asked → (r : Row) → Has (old.now.trees 0) r → is_within low high r ≡ true → Has (ids_of asked) (id_in (rowid r))
      to asked a r h within =
          mapped_has (λ r. id_in (rowid r)) asked (rowid r ∷ []) (rows_to in_range params (col 1 0 ∷ []) [] old.now.trees 0 refl asked a r h (in_range_is low high r (nodes.each r h) ∙ within))

pub kill_map : {F : List ℕ → List ℕ → Type 0} (rows next : List Row) (low high : List ℕ) → AreRows F rows → IsLeft rows next (is_within low high) → RemovesWithin (lookup rows) (lookup next) low high
kill_map rows next low high nodes left = record {
  gone = λ q within. lookup_none next q (λ r h same. true≢false (sym within ∙ ap (in_bounds low high) (sym same) ∙ (left.was r h).1));
  others = λ q outside. lookup_same rows next q nodes (left_nodes rows next (is_within low high) nodes left) (λ r same h. left.stays r h (ap (in_bounds low high) same ∙ outside)) (λ r same h. (left.was r h).0);
}
