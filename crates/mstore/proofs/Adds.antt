-- SPDX-License-Identifier: Apache-2.0
-- What a statement writes that puts a value at a key that has none.
use Rattle.mstore.proofs.Words.{◌≡◌, ◌≢◌, ◌&&◌, ℕ, true, false, List, [], ◌∷◌, Ok, refl, sym, ap, subst, ◌∙◌, inl, inr, and_from, and_parts, not-true}
use Rattle.mstore.proofs.Words.{true≢false, Null, Blob, Row, Written, Enforced, Chosen, rowid, Has, is_taken, are_fresh, some_from, State, Executes, runs_as}
use Rattle.mstore.proofs.Words.{one_step, node, schema, IsIdle, AreRows, key_of, is_at, put_all_adds, put_all_keeps, Add, sql, Trees, next_rowid, put_all}
use Rattle.mstore.proofs.Words.{edit_of, plain, Database}
use Rattle.sqlite_schema.specs.declared.schema.Constraint.TheVariants.{Unique}
use Rattle.sqlite_schema.specs.Rules.{agree, clashes, differ}
use Rattle.sqlite.specs.Edit.{numbered}
use Rattle.sqlite_rules.proofs.RuleLemmas.{keeps_at}
use Rattle.sqlite_catalog.specs.Listing.{IsSound}
use Rattle.mstore.proofs.Texts.{add_is, add_command, put_source}
use Rattle.mstore.proofs.Casts.{cast_null}
use Rattle.mstore.proofs.Changes.{agree_is, same_or_differ}
use Rattle.mstore.proofs.Edits.{IsLeft, taken_own}
use Rattle.mstore.proofs.Maps.{at_itself}
use Rattle.mstore.proofs.Puts.{IsPut, meta_apart, not_at, put_is_made, row_of}
use Rattle.mstore.proofs.Writes.{went, same_value, added, idle_after}

module _ {F : List ℕ → List ℕ → Type 0} (old : State) (has_schema : old.now.schema ≡ schema) (nodes : AreRows F (old.now.trees 0)) (k v : List ℕ) where
  abbrev params : Row
  params = Blob k ∷ Blob v ∷ []

  abbrev rows : List Row
  rows = old.now.trees 0

  abbrev fresh : Row
  fresh = row_of (next_rowid rows) k v

  -- the row, with the number that it is given
  pub news_is : (given : List Row) → given ≡ (Null ∷ Blob k ∷ Blob v ∷ []) ∷ [] → (edit_of old.now.trees node [] Chosen 0 given).news ≡ fresh ∷ []
  news_is given is = ap (λ l. (edit_of old.now.trees node [] Chosen 0 l).news) is ∙ ap (λ i. numbered Chosen rows ((i ∷ Blob k ∷ Blob v ∷ []) ∷ [])) cast_null

  -- the rule of the keys stands in the rows that come of it, so no row had the key
  none_had : (next : Trees) → IsSound schema next → next 0 ≡ put_all rows (fresh ∷ []) → are_fresh rows (fresh ∷ []) ≡ true → (r : Row) → Has rows r
      → key_of r ≢ k
  none_had next sound is free r h same =
      let here : Has (next 0) fresh = subst (λ l. Has l fresh) (sym is) (put_all_adds (fresh ∷ []) rows fresh free (inl refl)) in
      let there : Has (next 0) r = subst (λ l. Has l r) (sym is) (put_all_keeps (fresh ∷ []) rows r free h) in
      let unique = keeps_at Unique schema next node fresh (sound.obeys.rules Unique) (inl refl) here in
      let alone : clashes plain (1 ∷ []) (next 0) fresh ≡ false = not-true _ (and_parts _ _ unique).0 in
      let agrees : agree plain (1 ∷ []) r (1 ∷ []) fresh ≡ true = agree_is r fresh (nodes.each r h) refl ∙ at_itself r k same in
      let untaken : is_taken rows fresh ≡ false = not-true _ (and_parts _ _ free).0 in
      elim (same_or_differ r fresh (nodes.each r h) refl) [
        | inl one ↦ true≢false (sym (taken_own rows r fresh h one) ∙ untaken)
        | inr other ↦ true≢false (sym (some_from (λ o. agree plain (1 ∷ []) o (1 ∷ []) fresh && differ (rowid o) (rowid fresh)) (next 0) r there (and_from _ _ agrees other)) ∙ alone)
      ]

  pub adds : (new : State) (count : ℕ) → Executes (sql Add) params old new (Ok count)
      → (new.now.schema ≡ schema) × (IsIdle old → IsIdle new) × IsPut rows (new.now.trees 0) k v × (new.now.trees 2 ≡ old.now.trees 2)
  adds new count h =
      let w = runs_as (sql Add) params old new schema has_schema add_command add_is.0 add_is.1 count h in
      let did = added old new has_schema params _ count put_source w in
      let given = went did.1 in
      let edits = went (went given.2).2 in
      let counts = went edits.2 in
      let edit = edit_of old.now.trees node [] Chosen 0 given.0 in
      let step = one_step schema Enforced old.now.trees edits.0 edit refl edits.1 in
      let news = news_is given.0 given.1.1 in
      let trees : did.0.trees ≡ edits.0 = ap (λ (it : Written). it.trees) (same_value counts.2) ∙ same_value counts.1 in
      let now : new.now.trees ≡ edits.0 = ap (λ (d : Database). d.trees) did.2 ∙ trees in
      let is : new.now.trees 0 ≡ put_all rows (fresh ∷ []) = ap (λ (t : Trees). t 0) now ∙ step.rows ∙ ap (put_all rows) news in
      let free : are_fresh rows (fresh ∷ []) ≡ true = subst (λ l. are_fresh rows l ≡ true) news step.fresh in
      let schema_is : new.now.schema ≡ schema = ap (λ (d : Database). d.schema) did.2 in
      let none = none_had new.now.trees (subst (λ s. IsSound s new.now.trees) schema_is w.sound) is free in
      let kept : IsLeft rows rows (is_at k) = record { was = λ r here. (here, not_at k r (none r here)); stays = λ r here _. here } in (
        schema_is,
        idle_after old new add_command _ params count w,
        put_is_made rows rows (fresh ∷ []) (new.now.trees 0) k v (next_rowid rows) kept is free (λ x here. elim here [ inl same ↦ same | inr never ↦ absurd never ]) (inl refl) (inl refl),
        ap (λ (t : Trees). t 2) now ∙ step.tables.1.0 meta_apart,
      )
