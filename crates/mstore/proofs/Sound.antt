-- SPDX-License-Identifier: Apache-2.0
-- From what a call says to what it leaves of a store, where no doubt is left.
use Rattle.mstore.proofs.Words.{arith, ◌≡◌, ◌<◌, ◌∙◌, inl, inr, Bool, true, false, None, ℕ, List, [], ◌∷◌, Result, Ok, Err, IsTrue, sym, subst, schema, Ghosts}
use Rattle.mstore.proofs.Words.{Row, Error, Held, state, Executes, IsPlain, Blob, QueriesRow, understood, IsIdle, IsStore, Stays, stored, RemovesWithin}
use Rattle.mstore.proofs.Words.{IsInForm, Add, Kill, Replace, sql, OnErr, OnOk, is_ok, holds, runs_as, doubt_of, Database, HasVersion, this_version, AreNodes}
use Rattle.mstore.proofs.Words.{globals_by, key_of, value_of, ap, Shown, FailsToQuery}
use Rattle.std.proofs.Common.{nat_lt}
use Rattle.std.proofs.lemmas.Bool.Decides.{nat_tests}
use Rattle.mnodes.specs.declared.store.StoreFault.{StoreFault}
use Rattle.mstore.specs.Database.{node_rows}
use Rattle.mstore.specs.Putting.{PutsIf}
use Rattle.mstore.specs.Statements.{AddsRow, MeetsRow, is_put}
use Rattle.mstore.proofs.Doubting.{open_if}
use Rattle.mstore.proofs.States.{stays_calm, same_version, query_row_stays, shown_stays, failed_query_stays, failed_execute_stays, came}
use Rattle.mstore.proofs.Texts.{add_is, add_command, kill_is, kill_command, replace_is, replace_command}
use Rattle.mstore.proofs.Adds.{adds}
use Rattle.mstore.proofs.Maps.{lookup_none}
use Rattle.mstore.proofs.Puts.{IsPut, put_nodes, put_map}
use Rattle.mstore.proofs.Replaces.{replaces}
use Rattle.mstore.proofs.Kills.{kills, kill_map}
use Rattle.mstore.proofs.Edits.{left_nodes}

pub some_counted : (n : ℕ) → 0 < n → nat_lt 0 n ≡ true
some_counted n h = grind (arith, nat_tests)

-- a put or a kill that was done left the connection open
module _ {S : Type 0} (g : Ghosts S) (old new : Held S) (was : IsStore (state g old)) where
  pub add_open : (params : Row) (count : ℕ) → Executes (sql Add) params (state g old) (state g new) (Ok count) → IsTrue (state g new).is_open
  add_open params count h = (runs_as (sql Add) params (state g old) (state g new) schema was.calm.schema_is add_command add_is.0 add_is.1 count h).shown.is_open

  pub replace_open : (params : Row) (count : ℕ) → Executes (sql Replace) params (state g old) (state g new) (Ok count) → IsTrue (state g new).is_open
  replace_open params count h =
      (runs_as (sql Replace) params (state g old) (state g new) schema was.calm.schema_is replace_command replace_is.0 replace_is.1 count h).shown.is_open

  pub kill_open : (params : Row) (count : ℕ) → Executes (sql Kill) params (state g old) (state g new) (Ok count) → IsTrue (state g new).is_open
  kill_open params count h =
      (runs_as (sql Kill) params (state g old) (state g new) schema was.calm.schema_is kill_command kill_is.0 kill_is.1 count h).shown.is_open

-- each call lifts what its statement does to the store
module _ {S : Type 0} (g : Ghosts S) (old new : Held S) (was : IsStore (state g old)) (sure : doubt_of g new ≡ 0) where
  abbrev is_open : IsTrue (state g new).is_open
  is_open = open_if (state g new) sure

  abbrev idle : IsIdle (state g old)
  idle = was.calm.idle

  kept_sound : Stays (state g old) (state g new) → IsStore (state g new) × (stored g new ≡ stored g old) × (node_rows g new ≡ node_rows g old)
  kept_sound k = (
    record {
      calm = stays_calm (state g old) (state g new) was.calm k;
      version = subst (λ (d : Database). HasVersion d this_version) (sym k.same) was.version;
      nodes = subst (λ (d : Database). AreNodes (d.trees 0)) (sym k.same) was.nodes;
    },
    ap (λ (d : Database). globals_by key_of value_of (d.trees 0)) k.same,
    ap (λ (d : Database). d.trees 0) k.same,
  )

  pub query_keeps : (sql : List ℕ) (params : Row) (r : Result Row Error) → IsPlain (understood schema sql) → QueriesRow sql params (state g old) (state g new) r
      → IsStore (state g new) × (stored g new ≡ stored g old) × (node_rows g new ≡ node_rows g old)
  query_keeps sql params r plain h =
      kept_sound (query_row_stays (state g old) (state g new) idle is_open sql params r (subst (λ s. IsPlain (understood s sql)) (sym was.calm.schema_is) plain) h)

  -- also if all rows were asked for
  pub rows_keep : (sql : List ℕ) (params : Row) (rows : List Row) → IsPlain (understood schema sql) → Shown sql params (state g old) (state g new) rows
      → IsStore (state g new) × (stored g new ≡ stored g old) × (node_rows g new ≡ node_rows g old)
  rows_keep sql params rows plain h =
      kept_sound (shown_stays (state g old) (state g new) idle is_open sql params rows (subst (λ s. IsPlain (understood s sql)) (sym was.calm.schema_is) plain) h)

  pub no_rows_keep : (sql : List ℕ) (params : Row) (e : Error) → FailsToQuery sql params (state g old) (state g new) e
      → IsStore (state g new) × (stored g new ≡ stored g old) × (node_rows g new ≡ node_rows g old)
  no_rows_keep sql params e h = kept_sound (failed_query_stays (state g old) (state g new) idle is_open sql params e h)

  failed_execute : (sql : List ℕ) (params : Row) (e : Error) → Executes sql params (state g old) (state g new) (Err e)
      → IsStore (state g new) × (stored g new ≡ stored g old)
  failed_execute sql params e h = let it = kept_sound (failed_execute_stays (state g old) (state g new) idle is_open sql params e h) in (it.0, it.1)

  -- what a statement makes of a store that puts a value at a key, or leaves the rows
  abbrev Left : List ℕ → List ℕ → Result Bool StoreFault → Type 0
  Left k v result = IsStore (state g new) × PutsIf g old new k v (is_put result)

  abbrev Calls : Type 0
  Calls = ((state g new).now.schema ≡ schema) × (IsIdle (state g old) → IsIdle (state g new)) × ((state g new).now.trees 2 ≡ (state g old).now.trees 2)

  put_left : (k v : List ℕ) → IsInForm k v → Calls → IsPut (node_rows g old) (node_rows g new) k v → Left k v (Ok true)
  put_left k v right it put = (
    record { calm = record { idle = it.1 idle; schema_is = it.0 }; version = same_version (state g old).now (state g new).now this_version it.2 was.version; nodes = put_nodes _ _ k v right was.nodes put },
    put_map _ _ k v right was.nodes put,
  )

  same_left : (k v : List ℕ) → Calls → node_rows g new ≡ node_rows g old → Left k v (Ok false)
  same_left k v it same = (
    record { calm = record { idle = it.1 idle; schema_is = it.0 }; version = same_version (state g old).now (state g new).now this_version it.2 was.version; nodes = subst AreNodes (sym same) was.nodes },
    same,
  )

  failed_left : (k v : List ℕ) (sql : List ℕ) (params : Row) (e : Error) → Executes sql params (state g old) (state g new) (Err e) → Left k v (Ok false)
  failed_left k v sql params e h = let it = kept_sound (failed_execute_stays (state g old) (state g new) idle is_open sql params e h) in (it.0, it.2)

  kill_done : (low high : List ℕ) (count : ℕ) → Executes (sql Kill) (Blob low ∷ Blob high ∷ []) (state g old) (state g new) (Ok count)
      → IsStore (state g new) × RemovesWithin (holds g old) (holds g new) low high
  kill_done low high count h =
      let it = kills (state g old) was.calm.schema_is was.nodes low high (state g new) count h in
      (record { calm = record { idle = it.1 idle; schema_is = it.0 }; version = same_version (state g old).now (state g new).now this_version it.3 was.version; nodes = left_nodes _ _ _ was.nodes it.2 }, kill_map _ _ low high was.nodes it.2)

  pub add_after : (k v : List ℕ) → IsInForm k v → (count : Result ℕ Error) → Executes (sql Add) (Blob k ∷ Blob v ∷ []) (state g old) (state g new) count
      → (result : Result Bool StoreFault) → AddsRow count result → Left k v result
  add_after k v right (Ok n) h result is = let it = adds (state g old) was.calm.schema_is was.nodes k v (state g new) n h in subst (Left k v) (sym is) (put_left k v right (it.0, it.1, it.3) it.2)
  add_after k v right (Err e) h result (inl (rule, is)) = subst (Left k v) (sym is) (failed_left k v (sql Add) (Blob k ∷ Blob v ∷ []) e h)
  add_after k v right (Err e) h result (inr (other, fault)) = subst (Left k v) (sym fault.1) (failed_left k v (sql Add) (Blob k ∷ Blob v ∷ []) e h)

  pub replace_after : (k v : List ℕ) → IsInForm k v → (count : Result ℕ Error) → Executes (sql Replace) (Blob k ∷ Blob v ∷ []) (state g old) (state g new) count
      → (result : Result Bool StoreFault) → MeetsRow count result → Left k v result
  replace_after k v right (Ok n) h result is =
      let it = replaces (state g old) was.calm.schema_is was.nodes k v (state g new) n h in
      elim it.2 [
        | inl put ↦ subst (Left k v) (sym (is ∙ ap Ok (some_counted n put.1))) (put_left k v right (it.0, it.1, it.3) put.0)
        | inr none ↦ subst (Left k v) (sym (is ∙ ap (λ n. Ok (nat_lt 0 n)) none.2)) (same_left k v (it.0, it.1, it.3) none.0)
      ]
  replace_after k v right (Err e) h result fault = subst (Left k v) (sym fault.1) (failed_left k v (sql Replace) (Blob k ∷ Blob v ∷ []) e h)

  -- a change that met no row found none at the key
  pub replace_none : (k v : List ℕ) (count : Result ℕ Error) → Executes (sql Replace) (Blob k ∷ Blob v ∷ []) (state g old) (state g new) count
      → (result : Result Bool StoreFault) → MeetsRow count result → result ≡ Ok false → holds g old k ≡ None
  replace_none k v (Ok n) h result is met =
      let it = replaces (state g old) was.calm.schema_is was.nodes k v (state g new) n h in
      elim it.2 [
        | inl put ↦ absurd (let clash = sym (is ∙ ap Ok (some_counted n put.1)) ∙ met in cc)
        | inr none ↦ lookup_none _ k none.1
      ]
  replace_none k v (Err e) h result fault met = absurd (let clash = sym fault.1 ∙ met in cc)

  pub kill_after : {U F : Type 0} (low high : List ℕ) (count : Result ℕ Error)
      → Executes (sql Kill) (Blob low ∷ Blob high ∷ []) (state g old) (state g new) count
      → (r : Result U F) → is_ok r ≡ is_ok count → IsStore (state g new) × OnOk r (RemovesWithin (holds g old) (holds g new) low high) × OnErr r (stored g new ≡ stored g old)
  kill_after low high =
      came _ _ _ (Executes (sql Kill) (Blob low ∷ Blob high ∷ []) (state g old) (state g new)) (kill_done low high)
      (failed_execute (sql Kill) (Blob low ∷ Blob high ∷ []))
