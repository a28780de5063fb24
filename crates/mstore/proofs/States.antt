-- SPDX-License-Identifier: Apache-2.0
-- What a statement leaves, whatever became of it.
use Rattle.mstore.proofs.Words.{arith, ◌≡◌, ℕ, false, List, [], Option, Some, None, Result, Ok, Err, IsTrue, sym, ap, subst, ◌∙◌, inl, inr, cases_Bool, Row}
use Rattle.mstore.proofs.Words.{Command, Database, RefusesToRead, Error, QueryReturnedNoRows, State, IsUnchanged, FailsToShow, Executes, RunsCommand, ShowsRows}
use Rattle.mstore.proofs.Words.{shows_rows, IsPlain, understood, IsNotRun, FailsToQuery, QueriesRow, ExecutesIn, Shown, IsIdle, IsCalm, Stays, IsUntouched}
use Rattle.mstore.proofs.Words.{Gives, IfOk, OnErr, OnOk, Statement, is_ok, schema, sql, Value, Has, HasVersion, version_name, column}
use Rattle.mstore.proofs.Texts.{Asks}

pub stays_calm : (old new : State) → IsCalm old → Stays old new → IsCalm new
stays_calm old new was k = record { idle = k.idle; schema_is = ap (λ (d : Database). d.schema) k.same ∙ was.schema_is }

-- a version that the same rows give
pub same_version : (old new : Database) (v : Value) → new.trees 2 ≡ old.trees 2 → HasVersion old v → HasVersion new v
same_version old new v same has =
    subst (λ (rows : List Row). ((r : Row) × Has rows r × (column r 1 ≡ version_name) × (column r 2 ≡ v))
    × ((r s : Row) → Has rows r → Has rows s → column r 1 ≡ version_name → column s 1 ≡ version_name → r ≡ s)) (sym same) has

-- one call after another
pub stays_on : (a b c : State) → Stays a b → Stays b c → Stays a c
stays_on a b c p q = record { idle = q.idle; same = q.same ∙ p.same }

pub untouched : (old new : State) → IsIdle old → Stays old new → IsUntouched old new
untouched old new was k = record { now = k.same; committed = sym k.idle.settled ∙ k.same ∙ was.settled; mode = k.idle.autocommit ∙ sym was.autocommit }

module _ (old new : State) (was : IsIdle old) (is_open : IsTrue new.is_open) where
  pub unchanged_stays : IsUnchanged old new → Stays old new
  unchanged_stays h = grind arith

  pub not_run_stays : (sql : List ℕ) (params : Row) (e : Error) → IsNotRun old new sql params e → Stays old new
  unfolding IsNotRun
  not_run_stays sql params e h = grind arith

  command_stays : (sql : List ℕ) (c : _) (params : Row) (e : Error) → RunsCommand old new sql c params (Err e) → Stays old new
  command_stays sql c params e h = grind arith

  pub failed_execute_stays : (sql : List ℕ) (params : Row) (e : Error) → Executes sql params old new (Err e) → Stays old new
  unfolding ExecutesIn
  failed_execute_stays sql params e (inl h) = not_run_stays sql params e h
  failed_execute_stays sql params e (inr h) = elim (cases_Bool (shows_rows false h.0)) [
    | inl shows ↦ unchanged_stays (rw shows at h.2).1
    | inr runs ↦ command_stays sql h.0 _ e (rw runs at h.2)
  ]

  show_stays : (sql : List ℕ) (c : _) (params : Row) (e : Error) (o : _) → FailsToShow old new sql c params e o → Stays old new
  show_stays sql c params e o h = grind arith

  pub failed_query_stays : (sql : List ℕ) (params : Row) (e : Error) → FailsToQuery sql params old new e → Stays old new
  unfolding FailsToQuery
  failed_query_stays sql params e (inl h) = not_run_stays sql params e h
  failed_query_stays sql params e (inr h) = show_stays sql h.0 _ e _ h.2

  rows_stay : (sql : List ℕ) (c : _) (params : Row) (rows : List Row) (o : _) → o ≡ None → ShowsRows old new sql c params rows o → Stays old new
  rows_stay sql c params rows o h e = grind arith

  pub shown_stays : (sql : List ℕ) (params : Row) (rows : List Row) → IsPlain (understood old.now.schema sql) → Shown sql params old new rows → Stays old new
  unfolding Shown
  shown_stays sql params rows plain h = rows_stay sql h.0 _ rows _ (subst IsPlain h.1.is plain).0 h.2

  pub query_row_stays : (sql : List ℕ) (params : Row) (r : Result Row Error) → IsPlain (understood old.now.schema sql) → QueriesRow sql params old new r
      → Stays old new
  unfolding QueriesRow
  query_row_stays sql params (Ok row) plain (inl h) = unchanged_stays h.1
  query_row_stays sql params (Ok row) plain (inr h) = shown_stays sql params h.0 plain h.1
  query_row_stays sql params (Err e) plain (inl h) = failed_query_stays sql params e h
  query_row_stays sql params (Err e) plain (inr h) = shown_stays sql params [] plain h.1

refusal_is : (limit : Option ℕ) (command : Command) (db : Database) (params : Row) → RefusesToRead limit command db params QueryReturnedNoRows → ⊥
refusal_is limit command db params h = grind arith

pub not_run_is : (old new : State) (sql : List ℕ) (params : Row) → IsNotRun old new sql params QueryReturnedNoRows → ⊥
unfolding IsNotRun
not_run_is old new sql params h = grind arith

-- no row is given only where the answer has none
pub no_row_is : (sql : List ℕ) (params : Row) (old new : State) → IsPlain (understood old.now.schema sql)
    → QueriesRow sql params old new (Err QueryReturnedNoRows) → Shown sql params old new []
unfolding QueriesRow FailsToQuery
no_row_is sql params old new plain (inl (inl h)) = absurd (not_run_is old new sql params h)
no_row_is sql params old new plain (inl (inr h)) =
    let none = (subst IsPlain h.1.is plain).0 in
    absurd (let it = subst (FailsToShow old new sql h.0 _ QueryReturnedNoRows) none h.2 in refusal_is _ h.0.command it.0 _ it.2)
no_row_is sql params old new plain (inr h) = h.1

pub asks_plain : (s : Statement) (command : Command) → Asks s command → (old : State) → old.now.schema ≡ schema → IsPlain (understood old.now.schema (sql s))
asks_plain s command is old has = subst (λ c. IsPlain (understood c (sql s))) (sym has) is.1

-- ---- what is made of what came

-- what holds of each answer holds of the row that it gives
pub shows_found : {F : Type 0} (P : Option Row → Type 0) (Q : Result Row Error → Type 0) → (Q (Err QueryReturnedNoRows) → P None)
    → ((row : Row) → Q (Ok row) → P (Some row))
    → (answer : Result Row Error) → Q answer → (r : Result (Option Row) F) → IfOk r (Gives answer) → IfOk r P
shows_found P Q h e answer f r k = grind arith

-- what holds after each count, and after each error
pub came : {U F : Type 0} (A B C : Type 0) (Q : Result ℕ Error → Type 0) → ((n : ℕ) → Q (Ok n) → A × B) → ((e : Error) → Q (Err e) → A × C)
    → (count : Result ℕ Error) → Q count → (r : Result U F) → is_ok r ≡ is_ok count → A × OnOk r B × OnErr r C
came A B C Q ok err (Ok n) q (Ok u) e = (let it = ok n q in (it.0, it.1, tt))
came A B C Q ok err (Err f) q (Err g) e = (let it = err f q in (it.0, tt, it.1))
came A B C Q ok err (Ok n) q (Err g) e = absurd cc
came A B C Q ok err (Err f) q (Ok u) e = absurd cc

pub carried : {U F : Type 0} (P : Type 0) (Q : Result ℕ Error → Type 0) → ((n : ℕ) → Q (Ok n) → P) → (count : Result ℕ Error) → Q count → (r : Result U F)
    → is_ok r ≡ is_ok count → OnOk r P
carried P Q ok count q r e = (came (Unit {0}) P (Unit {0}) Q (λ n h. (tt, ok n h)) (λ _ _. (tt, tt)) count q r e).1
