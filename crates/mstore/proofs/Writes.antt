-- SPDX-License-Identifier: Apache-2.0
-- What a statement that writes the table leaves.
use Rattle.mstore.proofs.Words.{arith, ◌≡◌, ◌⊎◌, ℕ, List, None, Ok, Err, Result, ap, subst, inl, inr, Row, Command, Insert, InsertOr, Update, Delete, length}
use Rattle.mstore.proofs.Words.{◌∙◌, Enforced, Abort, Source, Tally, Does, Written, Task, InsertsOr, Updates, Deletes, Database, State, mode_of, Writes, Upsert}
use Rattle.mstore.proofs.Words.{Program, node, schema, IsIdle}
use Rattle.std.proofs.Common.{unwrap_or}
use Rattle.sqlite.specs.Rows.{Inserts}

-- a part that gave a value did not stop on the way
pub went : {B E R : Type 0} {b : B} {Stops : E → Type 0} → ((stop : E) × Stops stop × (Ok b ≡ Err stop)) ⊎ R → R
went (inl stopped) = absurd (let e = stopped.2 in cc)
went (inr on) = on

pub same_value : {B E : Type 0} {a b : B} → ◌≡◌ {A = Result B E} (Ok a) (Ok b) → a ≡ b
same_value e = cc

abbrev pub task : State → Row → Task
task s params = record { limit = s.step_limit; keys = Enforced; schema = schema; table = node; params = params }

module _ (old new : State) (has : old.now.schema ≡ schema) (params : Row) (text : List ℕ) (count : ℕ) where
  abbrev pub Leaves : Written → Type 0
  Leaves one = new.now ≡ record { schema = schema; trees = one.trees }

  pub inserted : (from : Source) (clauses : List Upsert) → Writes old new None (InsertOr 0 Abort from clauses) text params count
      → (one : Written) × InsertsOr (task old params) Abort clauses from old.now.trees (Ok one) × Leaves one
  inserted from clauses w =
      let done = went (subst (λ s. Does old.step_limit (mode_of old) params (record old.now { schema = s }) text None (InsertOr 0 Abort from clauses) (Ok (w.tally, new.now))) has w.changed) in
      (done.0, done.1, ap (λ (p : Tally × Database). p.1) (same_value (went (went done.2).2).2))

  pub added : (from : Source) → Writes old new None (Insert 0 from) text params count
      → (one : Written) × Inserts (task old params) from old.now.trees (Ok one) × Leaves one
  added from w =
      let done = went (subst (λ s. Does old.step_limit (mode_of old) params (record old.now { schema = s }) text None (Insert 0 from) (Ok (w.tally, new.now))) has w.changed) in
      (done.0, done.1, ap (λ (p : Tally × Database). p.1) (same_value (went (went done.2).2).2))

  -- the rows that it wrote are counted
  pub updated : (q : Program) → Writes old new None (Update 0 q) text params count
      → (one : Written) × Updates (task old params) q params old.now.trees (Ok one) × Leaves one × (count ≡ length one.rows)
  updated q w =
      let done = went (subst (λ s. Does old.step_limit (mode_of old) params (record old.now { schema = s }) text None (Update 0 q) (Ok (w.tally, new.now))) has w.changed) in
      let both = same_value (went (went done.2).2).2 in
      (done.0, done.1, ap (λ (p : Tally × Database). p.1) both, w.counted ∙ ap (λ (p : Tally × Database). unwrap_or p.0.rows 0) both)

  pub deleted : (q : Program) → Writes old new None (Delete 0 q) text params count
      → (one : Written) × Deletes (task old params) q old.now.trees (Ok one) × Leaves one
  deleted q w =
      let done = went (subst (λ s. Does old.step_limit (mode_of old) params (record old.now { schema = s }) text None (Delete 0 q) (Ok (w.tally, new.now))) has w.changed) in
      (done.0, done.1, ap (λ (p : Tally × Database). p.1) (same_value (went (went done.2).2).2))

-- outside a transaction the change is committed
pub idle_after : (old new : State) (command : Command) (text : List ℕ) (params : Row) (count : ℕ) → Writes old new None command text params count → IsIdle old
    → IsIdle new
idle_after old new command text params count w idle = grind arith
