-- SPDX-License-Identifier: Apache-2.0
-- Why a statement fails, where the disk has no fault: for lack of memory, or because of what it is.
use Rattle.mstore.proofs.Words.{arith, ◌≡◌, ◌⊎◌, ◌≤◌, ℕ, true, false, List, [], length, Option, Some, None, Result, Ok, Err, IsTrue, refl, sym, ap, subst, ◌∙◌}
use Rattle.mstore.proofs.Words.{inl, inr, true≢false, append-nil, Row, Command, Database, RefusesToRead, Error, QueryReturnedNoRows, State, IsUnchanged}
use Rattle.mstore.proofs.Words.{Executes, shows_rows, IsPlain, command_of, statement_of, understood, reads_listing, IsNotRun, FailsToQuery, QueriesRow}
use Rattle.mstore.proofs.Words.{ExecutesIn, Does, mode_of, Program, store_error, StoreError, OutOfMemory, Io, Corrupt, Full, Broken, Unstorable}
use Rattle.std.proofs.Common.{subst₂, nat_le}
use Rattle.std.proofs.lemmas.Bool.Decides.{nat_tests}
use Rattle.sqlite_disk.specs.Disk.{MoreFaults}
use Rattle.sqlite_resolve.specs.declared.compiled.Compiled.{Compiled}
use Rattle.sqlite_resolve.specs.declared.error.CompileError.{CompileError}
use Rattle.sqlite_schema.specs.declared.schema.Schema.{Schema}
use Rattle.sqlite_schema.specs.Program.{lets_of}
use Rattle.sqlite_sql.specs.Program.{ProgramOverflows}
use Rattle.sqlite_typing.specs.Types.{accepts_program}
use Rattle.sqlite.specs.declared.error.ErrorCode.TheVariants as code
use Rattle.sqlite.specs.declared.error.Error.TheVariants.{SqliteFailure}
use Rattle.sqlite.specs.Effect.{RefusesQuery}
use Rattle.sqlite.specs.Listing.{IsSourceOf}
use Rattle.sqlite.specs.State.{Fails, HasCause, IsNoStatement, IsMisplaced, text_of}

-- memory ran out
abbrev pub IsLack : Error → Type 0
IsLack e = e ≡ SqliteFailure code.OutOfMemory

-- the text is one statement, which takes as many parameters as are given and does not read the time
abbrev pub Takes : List ℕ → Row → Result Compiled CompileError → Type 0
Takes sql params (Ok c) = (nat_le (length sql) c.tail ≡ true) × (length params ≡ length c.names) × (c.formats ≡ [])
Takes sql params (Err e) = ⊥

-- it changes rows, and shows none
abbrev pub IsChange : Result Compiled CompileError → Type 0
IsChange (Ok c) = shows_rows false c ≡ false
IsChange (Err e) = ⊥

le_from : (a b : ℕ) → nat_le a b ≡ true → a ≤ b
le_from a b h = grind (arith, nat_tests)

-- a query that is well typed fails only by a sum or by a limit
pub reads_all : (q : Program) (db : Database) (params : Row) (limit : Option ℕ) → limit ≡ None → accepts_program db.schema (lets_of q) q.body params ≡ true
    → (ProgramOverflows db.trees params [] (lets_of q) q.body → ⊥) → (e : Error) → RefusesQuery limit db q params e → ⊥
reads_all q db params limit none typed fits e (inl h) = true≢false (sym typed ∙ h.1)
reads_all q db params limit none typed fits e (inr (inl h)) = fits h.1
reads_all q db params limit none typed fits e (inr (inr h)) = let some = rw none at h.1 in true≢false (sym some)

module _ (old new : State) (was_open : IsTrue old.is_open) (quiet : MoreFaults old.faults new.faults → ⊥) where
  cause_is : (too_big : Type 0) → (too_big → ⊥) → (cause : StoreError) → HasCause old new too_big cause → IsLack (store_error cause)
  cause_is too_big small OutOfMemory h = refl
  cause_is too_big small Io h = absurd (quiet h)
  cause_is too_big small Corrupt h = absurd (quiet h)
  cause_is too_big small Full h = absurd (quiet h)
  cause_is too_big small Broken h = absurd (true≢false (sym was_open ∙ h))
  cause_is too_big small Unstorable h = absurd (small h)

  pub fails_is : (too_big : Type 0) → (too_big → ⊥) → (e : Error) → Fails old new too_big e → IsLack e
  fails_is too_big small e h = h.1 ∙ cause_is too_big small h.0 h.2

  module _ (sql : List ℕ) (params : Row) (schema : Schema) (has : old.now.schema ≡ schema) (taken : Takes sql params (understood schema sql)) where
    takes : (r : Result Compiled CompileError) → understood old.now.schema sql ≡ r → Takes sql params r
    takes r is = subst (Takes sql params) (sym (ap (λ s. understood s sql) has) ∙ is) taken

    no_statement : (e : Error) → IsNoStatement old sql params e → ⊥
    no_statement e (inl h) = takes _ h.1
    no_statement e (inr h) = elim h.2 [ inl long ↦ long.0 (le_from _ _ (takes _ h.1).0) | inr (inl other) ↦ other.0 (takes _ h.1).1 | inr (inr clock) ↦ clock.0 (takes _ h.1).2 ]

    pub not_run_is : (e : Error) → IsNotRun old new sql params e → IsLack e
    unfolding IsNotRun
    not_run_is e (inl h) = absurd (no_statement e h.0)
    not_run_is e (inr h) = fails_is ⊥ (λ never. never) e h

    module _ (command : Command) (is : command_of (understood schema sql) ≡ command) (plain : IsPlain (understood schema sql)) where
      -- a query that is not refused
      pub query_is : reads_listing schema sql ≡ false → ((e : Error) → RefusesToRead old.step_limit command old.now params e → ⊥) → (e : Error) → FailsToQuery sql params old new e → IsLack e
      unfolding FailsToQuery
      query_is unlisted reads e (inl h) = not_run_is e h
      query_is unlisted reads e (inr h) =
          let known = sym h.1.is ∙ ap (λ s. understood s sql) has in
          let bare = subst IsPlain (sym known) plain in
          let it = rw (bare.0, bare.1, append-nil params) at h.2 in
          let db : it.0 ≡ old.now = subst (λ b. IsSourceOf b old.now it.0) (ap (λ s. reads_listing s sql) has ∙ unlisted) it.1 in
          absurd (reads e (subst₂ (λ k d. RefusesToRead old.step_limit k d params e) (ap command_of known ∙ is) db it.2))

      pub query_row_is : reads_listing schema sql ≡ false → ((e : Error) → RefusesToRead old.step_limit command old.now params e → ⊥) → (e : Error) → QueriesRow sql params old new (Err e) → IsLack e ⊎ (e ≡ QueryReturnedNoRows)
      unfolding QueriesRow
      query_row_is unlisted reads e (inl h) = inl (query_is unlisted reads e h)
      query_row_is unlisted reads e (inr h) = inr h.0

      abbrev Stops : Option Error → Type 0
      Stops stop = Does old.step_limit (mode_of old) params old.now (statement_of sql (understood schema sql)) None command (Err stop)

      -- a change is refused for what it does, and leaves all as it was
      pub change_is : IsChange (understood schema sql) → ((e : Error) → IsMisplaced old command e → ⊥) → (Stops None → ⊥) → (e : Error) → Executes sql params old new (Err e)
          → IsLack e ⊎ (Stops (Some e) × IsUnchanged old new)
      unfolding ExecutesIn
      change_is change placed small e (inl h) = inl (not_run_is e h)
      change_is change placed small e (inr h) =
          let known = sym h.1.is ∙ ap (λ s. understood s sql) has in
          let bare = subst IsPlain (sym known) plain in
          let changes = subst IsChange (sym known) change in
          let ran = rw (bare.0, bare.1, append-nil params) at (rw changes at h.2) in
          let command_is = ap command_of known ∙ is in
          let text_is : text_of sql h.0 ≡ statement_of sql (understood schema sql) = ap (statement_of sql) known in
          elim ran [
            | inl refused ↦ elim refused.0 [
              | inl place ↦ absurd (placed e (subst (λ k. IsMisplaced old k e) command_is place))
              | inr does ↦ inr (subst₂ (λ k t. Does old.step_limit (mode_of old) params old.now t None k (Err (Some e))) command_is text_is does.1, refused.1)
            ]
            | inr failed ↦ inl (fails_is _ (λ big. small (subst₂ (λ k t. Does old.step_limit (mode_of old) params old.now t None k (Err None)) command_is text_is big)) e failed)
          ]
