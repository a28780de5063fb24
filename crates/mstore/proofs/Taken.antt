-- SPDX-License-Identifier: Apache-2.0
-- What `prepare` says of a statement that the columns do not take.
use Rattle.mstore.proofs.Words.{arith, ◌≡◌, ℕ, List, [], Result, Ok, Err, IsTrue, IfOk, IfErr, Row, Error, SqlInputError, State, IsUnchanged, understood}
use Rattle.mstore.proofs.Words.{IsNotRun, IsIdle, Stays}
use Rattle.sqlite_resolve.specs.declared.error.CompileError.{CompileError}
use Rattle.mstore.proofs.Doubting.{not_run_open}
use Rattle.mstore.proofs.States.{unchanged_stays, not_run_stays}

pub prepare_stays : {A : Type 0} (Is : A → Type 0) (old new : State) (sql : List ℕ) (r : Result A Error) → IsIdle old → IsTrue new.is_open → IfOk r (λ s. Is s × IsUnchanged old new)
    → IfErr r (λ e. (params : Row) → IsNotRun old new sql params e) → Stays old new
prepare_stays Is old new sql (Ok s) idle is_open ok err = unchanged_stays old new idle is_open ok.1
prepare_stays Is old new sql (Err e) idle is_open ok err = not_run_stays old new idle is_open sql [] e (err [])

pub prepare_open : {A : Type 0} (Is : A → Type 0) (old new : State) (sql : List ℕ) (r : Result A Error) → IfOk r (λ s. Is s × IsUnchanged old new) → IfErr r (λ e. (params : Row) → IsNotRun old new sql params e) → IsTrue new.is_open → IsTrue old.is_open
prepare_open Is old new sql (Ok s) ok err is_open = ok.1.0.was_open
prepare_open Is old new sql (Err e) ok err is_open = not_run_open old new sql [] e (err []) is_open

pub not_taken : (old new : State) (sql : List ℕ) (fault : CompileError) → IsNotRun old new sql [] (SqlInputError fault) → (it : CompileError) × (understood old.now.schema sql ≡ Err it)
unfolding IsNotRun
not_taken old new sql fault h = grind arith
