-- SPDX-License-Identifier: Apache-2.0
-- What a statement does to the doubt of a connection.
use Rattle.mstore.proofs.Words.{◌&&◌, arith, ◌≡◌, ◌≤◌, ℕ, Bool, true, false, if◌then◌else◌, List, [], Option, Some, None, Result, Ok, Err, OnOk, IfOk, IfErr}
use Rattle.mstore.proofs.Words.{IsTrue, refl, sym, subst, inl, inr, cases_Bool, is_ok, no_doubt, Ghosts, Held, state, Row, Command, Error, State, HasCleanDisk}
use Rattle.mstore.proofs.Words.{IsUnchanged, IsRolledBack, FailsToShow, Executes, ExecutesInside, RunsCommand, Shows, ShowsRows, shows_rows, IsPlain}
use Rattle.mstore.proofs.Words.{understood, IsNotRun, FailsToQuery, QueriesRow, ExecutesIn, Shown, Gives, FailsToCommit, IsMemory, IsStore, TableOver, Doubts}
use Rattle.mstore.proofs.Words.{DoubtsStore, doubt_as, doubt_in, doubt_of, table_doubt}
use Rattle.sqlite.specs.Command.TheVariants.{Select, Insert, InsertOr, Update, Delete, CreateTable, CreateIndex, DropTable, DropIndex, Begin, Commit, Rollback}
use Rattle.sqlite.specs.Command.TheVariants.{Savepoint as Save, Release, RollbackTo, Nothing, CreateView, DropView, Rows}
use Rattle.sqlite_schema.specs.declared.command.Returning.{Returning}
use Rattle.sqlite_trees.specs.View.{doubt}
use Rattle.sqlite_trees.proofs.Doubt.{clean_of}
use Rattle.sqlite.specs.State.{Runs, ReleasesAt, KeepsCounts}
use Rattle.std.specs.Prelude.{Vec}
use Rattle.std.specs.declared.alloc.Global.{Global}
use Rattle.mstore.proofs.Words.{QueryReturnedNoRows, StoreError, store_error}
use Rattle.mstore.specs.Stretch.{DoubtsReading}
use Rattle.mstore.proofs.States.{no_row_is, not_run_is as never_not_run}

-- ---- the number

told : (is_clean is_open : Bool) → doubt_as is_clean is_open ≡ 0 → IsTrue is_clean × IsTrue is_open
told true true h = (refl, refl)
told true false h = absurd (omega (arith, h))
told false is_open h = absurd (omega (arith, h))

none : (is_clean is_open : Bool) → IsTrue is_clean → IsTrue is_open → doubt_as is_clean is_open ≡ 0
none true true h k = refl
none true false h k = absurd cc
none false is_open h k = absurd cc

is_shut : (is_clean is_open : Bool) → doubt_as is_clean is_open ≡ 1 → IsTrue is_clean × (is_open ≡ false)
is_shut true true h = absurd (omega (arith, h))
is_shut true false h = (refl, refl)
is_shut false is_open h = absurd (omega (arith, h))

most : (is_clean is_open : Bool) → doubt_as is_clean is_open ≤ 2
most true true = omega arith
most true false = omega arith
most false is_open = omega arith

rises : (a b c d : Bool) → doubt a ≤ doubt c → (doubt c ≡ 0 → IsTrue d → IsTrue b) → doubt_as a b ≤ doubt_as c d
unfolding doubt
rises a b false d falls opens = most a b
rises false b true d falls opens = absurd (omega (arith, falls))
rises true true true true falls opens = omega arith
rises true true true false falls opens = omega arith
rises true false true true falls opens = absurd (let e = opens refl refl in cc)
rises true false true false falls opens = omega arith

pub clean_if : (s : State) → doubt_in s ≡ 0 → HasCleanDisk s
clean_if s h = no_doubt s.is_clean (told s.is_clean s.is_open h).0

pub open_if : (s : State) → doubt_in s ≡ 0 → IsTrue s.is_open
open_if s h = (told s.is_clean s.is_open h).1

pub sure_if : (s : State) → HasCleanDisk s → IsTrue s.is_open → doubt_in s ≡ 0
sure_if s clean is_open = none s.is_clean s.is_open (clean_of s.is_clean clean) is_open

pub clean_if_shut : (s : State) → doubt_in s ≡ 1 → HasCleanDisk s
clean_if_shut s h = no_doubt s.is_clean (is_shut s.is_clean s.is_open h).0

pub shut_if : (s : State) → doubt_in s ≡ 1 → s.is_open ≡ false
shut_if s h = (is_shut s.is_clean s.is_open h).1

pub order : (old new : State) → doubt old.is_clean ≤ doubt new.is_clean → (HasCleanDisk new → IsTrue new.is_open → IsTrue old.is_open)
    → doubt_in old ≤ doubt_in new
order old new falls opens = rises old.is_clean old.is_open new.is_clean new.is_open falls opens

-- over memory there is none
pub memory_is_sure : {S : Type 0} (g : Ghosts S) (h : Held S) → IsMemory g → doubt_of g h ≡ 0
memory_is_sure g h quiet = sure_if (state g h) (quiet.clean h.store) (quiet.is_open h.store)

-- ---- a connection that is open after a statement was open before it

module _ (old new : State) where
  abbrev pub WasOpen : Type 0
  WasOpen = IsTrue new.is_open → IsTrue old.is_open

  pub unchanged_open : IsUnchanged old new → WasOpen
  unchanged_open h _ = h.0.was_open

  pub not_run_open : (sql : List ℕ) (params : Row) (e : Error) → IsNotRun old new sql params e → WasOpen
  unfolding IsNotRun
  not_run_open sql params e (inl h) is_open = h.1.0.was_open
  not_run_open sql params e (inr h) is_open = h.3.was_open is_open

  command_open : (sql : List ℕ) (c : _) (params : Row) (e : Error) → RunsCommand old new sql c params (Err e) → WasOpen
  command_open sql c params e (inl h) is_open = h.1.0.was_open
  command_open sql c params e (inr h) is_open = h.3.was_open is_open

  releases_open : (at : ℕ) → ReleasesAt old new at → WasOpen
  releases_open at (inl h) _ = h.1.0.was_open
  releases_open at (inr h) _ = h.1.0.was_open

  runs_open : (returning : Option Returning) (command : Command) (text : List ℕ) (params : Row) (count : ℕ) → Runs old new returning command text params count
      → WasOpen
  runs_open returning (Select q names) text params count h is_open = absurd h
  runs_open returning (Insert at from) text params count h is_open = h.shown.was_open
  runs_open returning (InsertOr at how from clauses) text params count h is_open = h.shown.was_open
  runs_open returning (Update at q) text params count h is_open = h.shown.was_open
  runs_open returning (Delete at q) text params count h is_open = h.shown.was_open
  runs_open returning CreateTable text params count h is_open = h.shown.was_open
  runs_open returning (CreateIndex at) text params count h is_open = h.shown.was_open
  runs_open returning (DropTable at) text params count h is_open = h.shown.was_open
  runs_open returning (DropIndex at) text params count h is_open = h.shown.was_open
  runs_open returning Begin text params count h is_open = h.1.was_open
  runs_open returning Commit text params count h is_open = h.1.was_open
  runs_open returning Rollback text params count h is_open = h.1.was_open is_open
  runs_open returning (Save name) text params count h is_open = h.0.0.was_open
  runs_open returning (Release name) text params count h is_open = releases_open h.0 h.2 is_open
  runs_open returning (RollbackTo name) text params count h is_open = h.2.2.was_open
  runs_open returning (Rows values width names) text params count h is_open = h.0.0.was_open
  runs_open returning Nothing text params count h is_open = h.0.0.was_open
  runs_open returning CreateView text params count h is_open = h.shown.was_open
  runs_open returning (DropView at) text params count h is_open = h.shown.was_open

  pub execute_open : (sql : List ℕ) (params : Row) (r : Result ℕ Error) → Executes sql params old new r → WasOpen
  unfolding ExecutesIn
  execute_open sql params (Ok count) h is_open = elim (cases_Bool (shows_rows false h.0)) [
    | inl shows ↦ absurd (let e = (rw shows at h.2).0 in cc)
    | inr runs ↦ runs_open _ h.0.command _ _ count (rw runs at h.2) is_open
  ]
  execute_open sql params (Err e) (inl h) is_open = not_run_open sql params e h is_open
  execute_open sql params (Err e) (inr h) is_open = elim (cases_Bool (shows_rows false h.0)) [
    | inl shows ↦ (rw shows at h.2).1.0.was_open
    | inr runs ↦ command_open sql h.0 _ e (rw runs at h.2) is_open
  ]

  pub inside_open : (sql : List ℕ) (params : Row) (r : Result ℕ Error) → ExecutesInside 0 sql params old new r → WasOpen
  inside_open sql params (Ok count) h is_open = h.1.was_open
  inside_open sql params (Err e) (inl (h, inl same)) is_open = same.0.was_open
  inside_open sql params (Err e) (inl (h, inr undone)) is_open = undone.was_open is_open
  inside_open sql params (Err e) (inr h) is_open = h.2.0.was_open

  show_open : (sql : List ℕ) (c : _) (params : Row) (e : Error) (o : Option Returning) → FailsToShow old new sql c params e o → WasOpen
  show_open sql c params e None h is_open = h.3.0.was_open
  show_open sql c params e (Some what) h is_open = command_open sql c params e h is_open

  pub failed_query_open : (sql : List ℕ) (params : Row) (e : Error) → FailsToQuery sql params old new e → WasOpen
  unfolding FailsToQuery
  failed_query_open sql params e (inl h) is_open = not_run_open sql params e h is_open
  failed_query_open sql params e (inr h) is_open = show_open sql h.0 _ e h.0.returning h.2 is_open

  rows_open : (sql : List ℕ) (c : _) (params : Row) (rows : List Row) (o : Option Returning) → ShowsRows old new sql c params rows o
      → IsTrue old.is_open × IsTrue new.is_open
  rows_open sql c params rows None h = (h.3.0.was_open, h.3.0.is_open)
  rows_open sql c params rows (Some what) h = (h.1.shown.was_open, h.1.shown.is_open)

  -- what shows an answer was open, and is
  pub shown_open : (sql : List ℕ) (params : Row) (rows : List Row) → Shown sql params old new rows → IsTrue old.is_open × IsTrue new.is_open
  unfolding Shown
  shown_open sql params rows h = rows_open sql h.0 _ rows h.0.returning h.2

  row_shown : (sql : List ℕ) (params : Row) (row : Row) → QueriesRow sql params old new (Ok row) → IsTrue old.is_open × IsTrue new.is_open
  unfolding QueriesRow
  row_shown sql params row (inl h) = (h.1.0.was_open, h.1.0.is_open)
  row_shown sql params row (inr h) = shown_open sql params h.0 h.1

  pub query_row_open : (sql : List ℕ) (params : Row) (r : Result Row Error) → QueriesRow sql params old new r → WasOpen
  unfolding QueriesRow
  query_row_open sql params (Ok row) h is_open = (row_shown sql params row h).0
  query_row_open sql params (Err e) (inl h) is_open = failed_query_open sql params e h is_open
  query_row_open sql params (Err e) (inr h) is_open = (shown_open sql params [] h.1).0

  -- ---- a statement that was done leaves it open

  pub open_clash : new.is_open ≡ false → IsTrue new.is_open → ⊥
  open_clash is_shut is_open = absurd cc

  pub found_fails : {F : Type 0} (sql : List ℕ) (params : Row) → IsPlain (understood old.now.schema sql) → (answer : Result Row Error)
      → QueriesRow sql params old new answer
      → (r : Result (Option Row) F) → IfOk r (Gives answer) → new.is_open ≡ false → is_ok r ≡ false
  found_fails sql params plain answer h (Err e) gives is_shut = refl
  found_fails sql params plain answer h (Ok None) gives is_shut =
      absurd (open_clash is_shut (shown_open sql params [] (no_row_is sql params old new plain (subst (QueriesRow sql params old new) gives h))).1)
  found_fails sql params plain answer h (Ok (Some row)) gives is_shut =
      absurd (open_clash is_shut (row_shown sql params row (subst (QueriesRow sql params old new) gives h)).1)

  -- no row is no fault of the store beneath
  no_rows_caused : (cause : StoreError) → QueryReturnedNoRows ≡ store_error cause → ⊥
  no_rows_caused cause h = grind arith

  none_open : (sql : List ℕ) (c : _) (params : Row) (o : Option Returning) → FailsToShow old new sql c params QueryReturnedNoRows o → IsTrue new.is_open
  none_open sql c params None h = h.3.0.is_open
  none_open sql c params (Some what) (inl h) = h.1.0.is_open
  none_open sql c params (Some what) (inr h) = absurd (no_rows_caused h.0 h.1)

  no_row_open : (sql : List ℕ) (params : Row) → QueriesRow sql params old new (Err QueryReturnedNoRows) → IsTrue new.is_open
  unfolding QueriesRow FailsToQuery
  no_row_open sql params (inl (inl h)) = absurd (never_not_run old new sql params h)
  no_row_open sql params (inl (inr h)) = none_open sql h.0 _ h.0.returning h.2
  no_row_open sql params (inr h) = (shown_open sql params [] h.1).1

  -- what is answered leaves it open, whatever the text is
  pub answered_open : {F : Type 0} (sql : List ℕ) (params : Row) (answer : Result Row Error) → QueriesRow sql params old new answer
      → (r : Result (Option Row) F) → IfOk r (Gives answer) → new.is_open ≡ false → is_ok r ≡ false
  answered_open sql params answer h (Err e) gives is_shut = refl
  answered_open sql params answer h (Ok None) gives is_shut =
      absurd (open_clash is_shut (no_row_open sql params (subst (QueriesRow sql params old new) gives h)))
  answered_open sql params answer h (Ok (Some row)) gives is_shut =
      absurd (open_clash is_shut (row_shown sql params row (subst (QueriesRow sql params old new) gives h)).1)

  pub done_fails : {U F : Type 0} (Q : Result ℕ Error → Type 0) → ((n : ℕ) → Q (Ok n) → IsTrue new.is_open) → (count : Result ℕ Error) → Q count
      → (r : Result U F) → is_ok r ≡ is_ok count → new.is_open ≡ false → is_ok r ≡ false
  done_fails Q opens (Ok n) h r same is_shut = absurd (open_clash is_shut (opens n h))
  done_fails Q opens (Err e) h r same is_shut = same

-- ---- inside a transaction, and from call to call

pub sure_before : {m n : ℕ} → n ≡ 0 → m ≤ n → m ≡ 0
sure_before sure rises = omega (arith, sure, rises)

pub rises_on : {l m n : ℕ} → l ≤ m → m ≤ n → l ≤ n
rises_on a b = omega (arith, a, b)

pub same_doubt : {S : Type 0} (g : Ghosts S) (old new : Held S) → new ≡ old → doubt_of g old ≤ doubt_of g new
same_doubt g old new same = subst (λ h. doubt_of g old ≤ doubt_of g h) (sym same) (omega arith)

pub seen_doubt : {S : Type 0} (g : Ghosts S) (old new : Held S) → old ≡ new → doubt_of g old ≤ doubt_of g new
seen_doubt g old new same = subst (λ h. doubt_of g old ≤ doubt_of g h) same (omega arith)

-- a transaction begins
pub begun_doubt : {S : Type 0} (g : Ghosts S) (old new : Held S) → new ≡ record old { in_transaction = true } → doubt_of g old ≤ doubt_of g new
begun_doubt g old new same = subst (λ h. doubt_of g old ≤ doubt_of g h) (sym same) (omega arith)

pub inside_order : {S : Type 0} {U : Type 0} (g : Ghosts S) (old new : Held S) (sql : List ℕ) (params : Row) (r : Result ℕ Error)
    → doubt (state g old).is_clean ≤ doubt (state g new).is_clean
    → ((state g old).in_transaction ≡ false → U × (new ≡ old))
    → (HasCleanDisk (state g new) → IsTrue (state g old).in_transaction → ExecutesInside 0 sql params (state g old) (state g new) r) → doubt_of g old ≤ doubt_of g new
inside_order g old new sql params r falls ended ran = elim (cases_Bool (state g old).in_transaction) [
  | inl inside ↦ order (state g old) (state g new) falls (λ clean. inside_open (state g old) (state g new) sql params r (ran clean inside))
  | inr outside ↦ same_doubt g old new (ended outside).1
]

pub rolled_order : {S : Type 0} (g : Ghosts S) (old new : Held S) → doubt (state g old).is_clean ≤ doubt (state g new).is_clean
    → (HasCleanDisk (state g new) → IsRolledBack (state g old) (state g new)) → doubt_of g old ≤ doubt_of g new
rolled_order g old new falls undone = order (state g old) (state g new) falls (λ clean. (undone clean).was_open)

pub commit_fails_open : (old new : State) (e : Error) → FailsToCommit old new e → IsTrue new.is_open → IsTrue old.is_open
commit_fails_open old new e (inl h) is_open = h.3.was_open is_open
commit_fails_open old new e (inr h) is_open = h.2.0.was_open

pub commit_open : {U : Type 0} (old new : State) (r : Result U Error)
    → OnOk r (IsTrue old.in_transaction × Shows old new old.now old.now false × KeepsCounts old new × (new.marks ≡ [])) → IfErr r (FailsToCommit old new)
    → IsTrue new.is_open → IsTrue old.is_open
commit_open old new (Ok u) ok err is_open = ok.1.was_open
commit_open old new (Err e) ok err is_open = commit_fails_open old new e err is_open

pub query_all_open : (old new : State) (sql : List ℕ) (params : Row) (r : Result (Vec Row Global) Error) → IfOk r (λ rows. Shown sql params old new rows.items)
    → IfErr r (FailsToQuery sql params old new) → IsTrue new.is_open → IsTrue old.is_open
query_all_open old new sql params (Ok rows) ok err is_open = (shown_open old new sql params rows.items ok).0
query_all_open old new sql params (Err e) ok err is_open = failed_query_open old new sql params e err is_open

-- what a statement inside leaves of what is committed
pub inside_committed : (old new : State) (sql : List ℕ) (params : Row) (r : Result ℕ Error) → IsTrue new.is_open → ExecutesInside 0 sql params old new r
    → new.committed ≡ old.committed
inside_committed old new sql params (Ok count) is_open h = h.1.committed_is
inside_committed old new sql params (Err e) is_open (inl (h, inl same)) = same.0.committed_is
inside_committed old new sql params (Err e) is_open (inl (h, inr undone)) = (undone.undone is_open).1
inside_committed old new sql params (Err e) is_open (inr h) = h.2.0.committed_is

-- ---- a table over the connection

alone_sure : (is_alone : Bool) (n : ℕ) → (if is_alone then n else 2) ≡ 0 → IsTrue is_alone × (n ≡ 0)
alone_sure true n h = (refl, h)
alone_sure false n h = absurd (omega (arith, h))

pub sure_table : {S : Type 0} (g : Ghosts S) (t : TableOver S) → table_doubt g t ≡ 0 → IsTrue t.is_alone × (doubt_of g t.conn ≡ 0)
sure_table g t h = alone_sure t.is_alone (doubt_of g t.conn) h

doubts_if : (is_alone : Bool) (sound : Type 0) (old new : ℕ) (had_more has_more is_done : Bool) → old ≤ new
    → (IsTrue is_alone → old ≡ 0 → new ≡ 1 → is_done ≡ false) → (sound → new ≡ 0) → (IsTrue has_more → IsTrue had_more)
    → Doubts sound (if is_alone then old else 2) (if is_alone then new else 2) (is_alone && had_more) (is_alone && has_more) is_done
doubts_if true sound old new had_more has_more is_done order failed stays room = record { order = order; failed = failed refl; stays = λ s. omega (arith, stays s); room = room }
doubts_if false sound old new had_more has_more is_done order failed stays room = record { order = omega arith; failed = λ e f. absurd (omega (arith, e)); stays = λ s. omega arith; room = λ r. r }

-- what a statement does to the doubt of the connection, it does to that of the table
pub table_doubts : {S : Type 0} (g : Ghosts S) (old new : Held S) (is_alone had_more has_more is_done : Bool)
    → (IsTrue is_alone → doubt_of g old ≡ 0 → IsStore (state g old)) → DoubtsStore g old new is_done → (IsTrue has_more → IsTrue had_more)
    → Doubts (IsMemory g) (if is_alone then doubt_of g old else 2) (if is_alone then doubt_of g new else 2) (is_alone && had_more) (is_alone && has_more) is_done
table_doubts g old new is_alone had_more has_more is_done was d room =
    doubts_if is_alone (IsMemory g) (doubt_of g old) (doubt_of g new) had_more has_more is_done d.order (λ alone e f. d.failed (was alone e) f) (λ quiet. memory_is_sure g new quiet) room

pub reading_doubts : {S : Type 0} (g : Ghosts S) (old new : Held S) (is_alone has_more is_done : Bool)
    → (IsTrue is_alone → doubt_of g old ≡ 0 → IsStore (state g old)) → DoubtsReading g old new is_done
    → Doubts (IsMemory g) (if is_alone then doubt_of g old else 2) (if is_alone then doubt_of g new else 2) (is_alone && has_more) (is_alone && has_more) is_done
reading_doubts g old new is_alone has_more is_done was d =
    doubts_if is_alone (IsMemory g) (doubt_of g old) (doubt_of g new) has_more has_more is_done d.order (λ alone e f. d.failed e (was alone e) f) (λ quiet. memory_is_sure g new quiet) (λ more. more)
