-- SPDX-License-Identifier: Apache-2.0
-- What a statement writes that puts a value in the place of the one at a key.
use Rattle.mstore.proofs.Words.{◌≡◌, ◌≢◌, ◌⊎◌, ◌<◌, ℕ, ℤ, true, false, Term, List, [], ◌∷◌, length, map, drop, Ok, refl, sym, ap, ap₂, subst, ◌∙◌, inl, inr}
use Rattle.mstore.proofs.Words.{arith, Null, Int, Blob, Row, column, col, Binary, is_true, Compare, Eq, binary, Written, given, IsAnswer, overlay, Integer}
use Rattle.mstore.proofs.Words.{cast, cast_row, Enforced, Given, rowid, Has, id_in, without_all, are_fresh, ids_of, at_blobs, last_term, same_bytes, State}
use Rattle.mstore.proofs.Words.{Executes, runs_as, one_step, node, schema, IsIdle, AreRows, key_of, is_at, Replace, sql, Trees, put_all, edit_of}
use Rattle.mstore.proofs.Texts.{replace_is, replace_command, replace_query, program, at_key}
use Rattle.mstore.proofs.Casts.{cast_int}
use Rattle.mstore.proofs.Answer.{rows_from, rows_to, has_mapped, mapped_has, passes}
use Rattle.mstore.proofs.RowTests.{key_column}
use Rattle.mstore.proofs.Edits.{left_is}
use Rattle.mstore.proofs.Maps.{at_itself}
use Rattle.mstore.proofs.Puts.{IsPut, meta_apart, put_is_made, row_of}
use Rattle.mstore.proofs.Writes.{went, same_value, updated, idle_after}

-- a list of no row, or of some
some_or_none : {X : Type 0} (xs : List X) → (xs ≡ []) ⊎ ((x : X) × Has xs x × (0 < length xs))
some_or_none [] = inl refl
some_or_none (x ∷ xs) = inr (x, inl refl, omega arith)

module _ {F : List ℕ → List ℕ → Type 0} (old : State) (has_schema : old.now.schema ≡ schema) (nodes : AreRows F (old.now.trees 0)) (k v : List ℕ) where
  abbrev params : Row
  params = Blob k ∷ Blob v ∷ []

  abbrev rows : List Row
  rows = old.now.trees 0

  abbrev project : List Term
  project = col 1 0 ∷ col 1 0 ∷ col 1 1 ∷ col 0 1 ∷ []

  pub own : (s : Row) → Has rows s → rowid s ≡ Int (id_in (rowid s))
  own s h = ap (λ t. rowid t) (nodes.each s h)

  pub passes_is : (r : Row) → Has rows r → passes at_key params r ≡ is_at k r
  passes_is r h = last_term (ap (λ u. is_true (binary (Compare Eq Binary) u (Blob k))) (key_column r (nodes.each r h)) ∙ at_blobs false Eq (key_of r) k)

  abbrev cast_of : Row → Row
  cast_of s = cast_row node (drop 1 s)

  -- what it did: it put the value, or no row has the key
  abbrev pub Replaced : Trees → ℕ → Type 0
  Replaced next count = (IsPut rows (next 0) k v × (0 < count)) ⊎ ((next 0 ≡ rows) × ((r : Row) → Has rows r → key_of r ≢ k) × (count ≡ 0))

  module _ (asked : List Row) (a : IsAnswer replace_query (overlay old.now.trees []) params asked) where
    pub none_at : asked ≡ [] → (r : Row) → Has rows r → key_of r ≢ k
    none_at none r h same =
        let shown : Row = rowid r ∷ rowid r ∷ column r 1 ∷ Blob v ∷ [] in
        let there : Has [] shown = subst (λ l. Has l shown) none (rows_to at_key params project [] old.now.trees 0 refl asked a r h (passes_is r h ∙ at_itself r k same)) in there

    module _ (r : Row) (has : Has rows r) (same : key_of r ≡ k) where
      abbrev number : ℤ
      number = id_in (rowid r)

      abbrev full : Row
      full = rowid r ∷ rowid r ∷ column r 1 ∷ Blob v ∷ []

      pub asked_from : (x : Row) → Has asked x → x ≡ full
      asked_from x h =
          let it = rows_from at_key params project [] old.now.trees 0 refl asked a x h in
          let one = nodes.keys it.0 r it.1 has (same_bytes (key_of it.0) k (sym (passes_is it.0 it.1) ∙ it.2) ∙ sym same) in
          it.3 ∙ ap (λ s. rowid s ∷ rowid s ∷ column s 1 ∷ Blob v ∷ []) one

      pub asked_to : Has asked full
      asked_to = rows_to at_key params project [] old.now.trees 0 refl asked a r has (passes_is r has ∙ at_itself r k same)

      pub cast_full : cast_of full ≡ row_of number k v
      cast_full = ap₂ (λ a b. a ∷ b ∷ Blob v ∷ []) (ap (cast Integer) (own r has) ∙ cast_int number) (key_column r (nodes.each r has) ∙ ap Blob same)

      pub made : (next : List Row) → next ≡ put_all (without_all rows (ids_of asked)) (map cast_of asked)
          → are_fresh (without_all rows (ids_of asked)) (map cast_of asked) ≡ true → IsPut rows next k v
      made next is fresh =
          let ids = ids_of asked in
          let kept = left_is rows nodes ids (is_at k)
          (λ d among. let x = has_mapped (λ s. id_in (rowid s)) asked d among in (r, has, at_itself r k same, x.2 ∙ ap (λ s. id_in (rowid s)) (asked_from x.0 x.1)))
          (λ s here at.
          let one = nodes.keys s r here has (same_bytes (key_of s) k at ∙ sym same) in
          subst (λ t. Has ids (id_in (rowid t))) (sym one) (mapped_has (λ s. id_in (rowid s)) asked full asked_to)) in
          put_is_made rows (without_all rows ids) (map cast_of asked) next k v number kept is fresh
          (λ x here. let s = has_mapped cast_of asked x here in s.2 ∙ ap cast_of (asked_from s.0 s.1) ∙ cast_full)
          (subst (Has (map cast_of asked)) cast_full (mapped_has cast_of asked full asked_to)) (inr (r, has, refl))

  length_mapped : (xs : List Row) → length (map cast_of xs) ≡ length xs
  length_mapped [] = refl
  length_mapped (x ∷ xs) = omega (arith, length_mapped xs)

  pub replaces : (new : State) (count : ℕ) → Executes (sql Replace) params old new (Ok count)
      → (new.now.schema ≡ schema) × (IsIdle old → IsIdle new) × Replaced new.now.trees count × (new.now.trees 2 ≡ old.now.trees 2)
  replaces new count h =
      let w = runs_as (sql Replace) params old new schema has_schema replace_command replace_is.0 replace_is.1 count h in
      let did = updated old new has_schema params _ count (program replace_query) w in
      let asked = went did.1 in
      let edits = went asked.2 in
      let a = asked.1.answer Null in
      let ids = ids_of asked.0 in
      let edit = edit_of old.now.trees node ids Given 1 asked.0 in
      let step = one_step schema Enforced old.now.trees edits.0 edit refl edits.1 in
      let left = without_all rows ids in
      let news : edit.news ≡ map cast_of asked.0 = given left (map cast_of asked.0) in
      let trees : did.0.trees ≡ edits.0 = ap (λ (it : Written). it.trees) (same_value edits.2) in
      let now : new.now.trees ≡ edits.0 = ap (λ (d : _). d.trees) did.2 ∙ trees in
      let is : new.now.trees 0 ≡ put_all left (map cast_of asked.0) = ap (λ (t : Trees). t 0) now ∙ step.rows ∙ ap (put_all left) news in
      let fresh = subst (λ l. are_fresh left l ≡ true) news step.fresh in
      let counted : count ≡ length asked.0 = did.3 ∙ ap (λ (it : Written). length it.rows) (same_value edits.2) ∙ ap length news ∙ length_mapped asked.0 in (
        ap (λ (d : _). d.schema) did.2,
        idle_after old new replace_command _ params count w,
        elim (some_or_none asked.0) [
          | inl none ↦ inr (is ∙ ap (λ l. put_all (without_all rows (ids_of l)) (map cast_of l)) none, none_at asked.0 a none, counted ∙ ap length none)
          | inr some ↦
              let it = rows_from at_key params project [] old.now.trees 0 refl asked.0 a some.0 some.1 in
              let same = same_bytes (key_of it.0) k (sym (passes_is it.0 it.1) ∙ it.2) in
              inl (made asked.0 a it.0 it.1 same (new.now.trees 0) is fresh, subst (λ n. 0 < n) (sym counted) some.2)
        ],
        ap (λ (t : Trees). t 2) now ∙ step.tables.1.0 meta_apart,
      )
