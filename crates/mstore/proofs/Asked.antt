-- SPDX-License-Identifier: Apache-2.0
-- Over a store beneath that has no fault, a query of the table fails only for lack of memory.
use Rattle.mstore.proofs.Words.{arith, ◌≡◌, ◌≢◌, ◌⊎◌, ℕ, Bool, List, [], ◌∷◌, Option, None, Result, Ok, Err, refl, ap, subst, inl, inr, Ghosts, Held, state}
use Rattle.mstore.proofs.Words.{Row, Blob, Int, pos, Error, FailsToQuery, QueryReturnedNoRows, QueriesRow, RefusesToRead, IsStore, schema, Ahead, Get, Step, sql}
use Rattle.sqlite_disk.specs.Disk.{MoreFaults}
use Rattle.mnodes.specs.declared.store.StoreFault.{StoreFault}
use Rattle.mnodes.specs.declared.store.StoreFault.TheVariants.{Store}
use Rattle.mstore.specs.Room.{IsFaultless}
use Rattle.mstore.specs.Statements.{IsRefusal}
use Rattle.mstore.proofs.Texts.{ahead_is, ahead_command, ahead_query, get_is, get_command, step_is, step_command, program, step_query, in_range, by_key, at_key}
use Rattle.mstore.proofs.Causes.{IsLack, query_is, query_row_is, reads_all}
use Rattle.mstore.proofs.Accepts.{ahead_takes, ahead_typed, ahead_fits, get_takes, get_typed, get_query, step_takes, step_typed, no_overflow}
use Rattle.sqlite.specs.Term.{col}

-- such a store beneath has no fault to count
pub quiet : {S : Type 0} (g : Ghosts S) (old new : Held S) → IsFaultless g → MoreFaults (state g old).faults (state g new).faults → ⊥
quiet g old new beneath more = omega (arith, beneath.faultless old.store, beneath.faultless new.store, more)

-- what the code makes of an answer that is no refusal
pub unrefused : (answer : Result Row Error) (result : Result (Option Row) StoreFault) → ((e : Error) → answer ≡ Err e → IsLack e ⊎ (e ≡ QueryReturnedNoRows))
    → (result ≡ Err Store → IsRefusal answer) → (answer ≡ Err QueryReturnedNoRows → result ≡ Ok None) → result ≢ Err Store
unrefused (Ok row) result causes refusal none h = refusal h
unrefused (Err e) result causes refusal none h = elim (causes e refl) [ inl lack ↦ refusal h lack | inr no_rows ↦ let found = none (ap Err no_rows) in cc ]

module _ {S : Type 0} (g : Ghosts S) (old new : Held S) (beneath : IsFaultless g) (was : IsStore (state g old)) (unlimited : old.step_limit ≡ None) where
  pub get_causes : (k : List ℕ) (e : Error) → QueriesRow (sql Get) (Blob k ∷ []) (state g old) (state g new) (Err e) → IsLack e ⊎ (e ≡ QueryReturnedNoRows)
  get_causes k e h =
      query_row_is (state g old) (state g new) (beneath.memory.is_open old.store) (quiet g old new beneath) (sql Get) (Blob k ∷ []) schema was.calm.schema_is (get_takes k)
      get_command get_is.0 get_is.1 get_is.2
      (λ e refused. reads_all (program get_query) (record (state g old).now { schema = schema }) (Blob k ∷ []) old.step_limit unlimited (get_typed k) (no_overflow 0 at_key (col 1 2 ∷ []) [] (state g old).now.trees (Blob k ∷ [])) e
      (subst (λ s. RefusesToRead old.step_limit get_command (record (state g old).now { schema = s }) (Blob k ∷ []) e) was.calm.schema_is refused)) e h

  pub step_causes : (down : Bool) (low high : List ℕ) (e : Error) → QueriesRow (sql (Step down)) (Blob low ∷ Blob high ∷ []) (state g old) (state g new) (Err e)
      → IsLack e ⊎ (e ≡ QueryReturnedNoRows)
  step_causes down low high e h =
      query_row_is (state g old) (state g new) (beneath.memory.is_open old.store) (quiet g old new beneath) (sql (Step down)) (Blob low ∷ Blob high ∷ []) schema was.calm.schema_is (step_takes down low high)
      (step_command down) (step_is down).0 (step_is down).1 (step_is down).2
      (λ e refused. reads_all (program (step_query down)) (record (state g old).now { schema = schema }) (Blob low ∷ Blob high ∷ []) old.step_limit unlimited (step_typed down low high)
      (no_overflow 0 in_range (col 1 1 ∷ []) (by_key down) (state g old).now.trees (Blob low ∷ Blob high ∷ [])) e
      (subst (λ s. RefusesToRead old.step_limit (step_command down) (record (state g old).now { schema = s }) (Blob low ∷ Blob high ∷ []) e) was.calm.schema_is refused)) e h

  pub ahead_causes : (low high : List ℕ) (most : ℕ) (e : Error)
      → FailsToQuery (sql Ahead) (Blob low ∷ Blob high ∷ Int (pos most) ∷ []) (state g old) (state g new) e → IsLack e
  ahead_causes low high most e h =
      let params : Row = Blob low ∷ Blob high ∷ Int (pos most) ∷ [] in
      query_is (state g old) (state g new) (beneath.memory.is_open old.store) (quiet g old new beneath) (sql Ahead) params schema was.calm.schema_is (ahead_takes low high most)
      ahead_command ahead_is.0 ahead_is.1 ahead_is.2
      (λ e refused. reads_all (program ahead_query) (record (state g old).now { schema = schema }) params old.step_limit unlimited (ahead_typed low high most)
      (ahead_fits (state g old).now.trees params) e
      (subst (λ s. RefusesToRead old.step_limit ahead_command (record (state g old).now { schema = s }) params e) was.calm.schema_is refused)) e h
