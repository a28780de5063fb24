-- SPDX-License-Identifier: Apache-2.0
-- A statement that removes a range of keys is never refused.
use Rattle.mstore.proofs.Words.{arith, ◌≡◌, ◌≢◌, ℕ, pos, List, [], ◌∷◌, Option, Some, None, Result, Ok, Err, IsTrue, refl, subst, inl, inr, Row, Blob, Error}
use Rattle.mstore.proofs.Words.{IsDatabase, Does, mode_of, Deletes, Executes, State, AreRows, Given, ids_of, edit_of, without_all, node, schema, Kill, sql}
use Rattle.mstore.proofs.Words.{statement_of, understood, all_from}
use Rattle.mstore.proofs.Texts.{kill_is, kill_command, kill_query, program, in_range}
use Rattle.mstore.proofs.Writes.{task}
use Rattle.mstore.proofs.Causes.{IsLack, change_is, reads_all}
use Rattle.mstore.proofs.Accepts.{kill_takes, kill_changes, kill_typed, no_overflow}
use Rattle.mstore.proofs.Changes.{Wants, edit_stops, refusal_is, unique_in, fewer}
use Rattle.mnodes.specs.declared.store.StoreFault.{StoreFault}
use Rattle.mnodes.specs.declared.store.StoreFault.TheVariants.{Store}
use Rattle.mstore.specs.Statements.{IsRefusal}
use Rattle.sqlite_catalog.specs.Listing.{IsSound}
use Rattle.sqlite_rules.proofs.TableLemmas.{without_all_has}
use Rattle.sqlite_rules.specs.declared.error.Refusal.{Refusal}
use Rattle.sqlite_trees.specs.Tree.{with_tree}
use Rattle.sqlite.specs.Does.{Concludes}
use Rattle.sqlite.specs.Rows.{Then}
use Rattle.sqlite.specs.State.{IsMisplaced}
use Rattle.sqlite.specs.Term.{col}
use Rattle.sqlite_disk.specs.Disk.{MoreFaults}

module _ {F : List ℕ → List ℕ → Type 0} (old : State) (has : old.now.schema ≡ schema) (nodes : AreRows F (old.now.trees 0)) (sound : IsDatabase old.now) (unlimited : old.step_limit ≡ None) (low high : List ℕ) where
  abbrev params : Row
  params = Blob low ∷ Blob high ∷ []

  abbrev rows : List Row
  rows = old.now.trees 0

  abbrev Never : Refusal → Type 0
  Never why = ⊥

  wants : (s : Option Error) → Wants Never s → ⊥
  wants None h = h
  wants (Some e) h = h.2

  listed : IsSound schema old.now.trees
  listed = subst (λ s. IsSound s old.now.trees) has sound

  stops : (s : Option Error) → Then (Deletes (task old params) (program kill_query) old.now.trees) (Concludes (task old params) (mode_of old) None) (Err s) → ⊥
  stops s (inl (stop, inl (None, asked, again), same)) = asked
  stops s (inl (stop, inl (Some e, asked, again), same)) =
      reads_all (program kill_query) (record { schema = schema; trees = old.now.trees }) params old.step_limit unlimited (kill_typed low high) (no_overflow 0 in_range (col 1 0 ∷ []) [] old.now.trees params) e asked
  stops s (inl (stop, inr (asked, answer, inl (why, edited, again)), same)) =
      let ids = ids_of asked in
      let left = without_all rows ids in
      wants why (edit_stops Never old.now.trees (edit_of old.now.trees node ids Given 0 []) refl
      (refusal_is Never old.now.trees (edit_of old.now.trees node ids Given 0 []) refl (pos 0) [] [] (λ x h. absurd h) refl
      (λ broken. broken (unique_in left (fewer rows left nodes (λ r h. without_all_has ids rows r h)) old.now.trees (with_tree old.now.trees 0 left) refl refl listed)) (λ unfit. absurd cc))
      (λ row h big. h) why edited)
  stops s (inl (stop, inr (asked, answer, inr (next, edited, gives)), same)) = absurd cc
  stops s (inr (w, wrote, inl (stop, tested, same))) = tested.0 (all_from _ (w.trees 0) (λ row h. refl), (all_from _ (w.trees 2) (λ row h. refl), tt))
  stops s (inr (w, wrote, inr (doubt, tested, inl (stop, returns, same)))) = absurd cc
  stops s (inr (w, wrote, inr (doubt, tested, inr (shown, returns, gives)))) = absurd cc

  kill_stops : (text : List ℕ) (s : Option Error) → Does old.step_limit (mode_of old) params old.now text None kill_command (Err s) → ⊥
  kill_stops text s h = stops s (subst (λ c. Does old.step_limit (mode_of old) params (record old.now { schema = c }) text None kill_command (Err s)) has h)

  placed : (e : Error) → IsMisplaced old kill_command e → ⊥
  placed e h = grind arith

  abbrev text : List ℕ
  text = statement_of (sql Kill) (understood schema (sql Kill))

  pub kill_causes : (new : State) → IsTrue old.is_open → (MoreFaults old.faults new.faults → ⊥) → (e : Error) → Executes (sql Kill) params old new (Err e)
      → IsLack e
  kill_causes new was_open none e h = elim (change_is old new was_open none (sql Kill) params schema has (kill_takes low high) kill_command kill_is.0 kill_is.1 kill_changes placed (kill_stops text None) e h) [
    | inl lack ↦ lack
    | inr does ↦ absurd (kill_stops text (Some e) does.0)
  ]

-- what the code makes of it
pub undone : {U : Type 0} (count : Result ℕ Error) (result : Result U StoreFault) → ((e : Error) → count ≡ Err e → IsLack e)
    → (result ≡ Err Store → IsRefusal count) → result ≢ Err Store
undone (Ok n) result causes refusal h = refusal h
undone (Err e) result causes refusal h = refusal h (causes e refl)
