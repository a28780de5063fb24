-- SPDX-License-Identifier: Apache-2.0
-- What `put` writes.
use Rattle.mstore.proofs.Words.{◌≡◌, ◌≢◌, ◌⊎◌, ℕ, ℤ, Bool, true, false, ◌&&◌, ◌||◌, List, [], ◌∷◌, map, drop, Option, Some, None, Ok, refl, sym, ap, ap₂, arith}
use Rattle.mstore.proofs.Words.{int_eq, subst, ◌∙◌, inl, inr, false_from_ne_true, and_parts, not-true, Value, Null, Int, Blob, Row, column, Binary, col}
use Rattle.mstore.proofs.Words.{is_true, Compare, Eq, Written, Puts, Updates, Upserts, Tries, TriesEach, Clears, Meets, Judged, count_of, nothing}
use Rattle.mstore.proofs.Words.{first_key-plain, Key, given, Database, IsAnswer, overlay, Integer, cast, cast_row, Enforced, Abort, Given, Chosen, rowid, Has}
use Rattle.mstore.proofs.Words.{id_in, without_all, are_fresh, is_taken, with_rowid, ids_of, put_all_has, put_all_keeps, put_all_adds, at_ints, at_blobs}
use Rattle.mstore.proofs.Words.{last_term, same_bytes, State, Executes, runs_as, one_step, binary, ints, node, schema, IsIdle, PutsAt, AreRows, IsNode, key_of}
use Rattle.mstore.proofs.Words.{value_of, lookup, is_at, Put, sql, true≢false, Trees, next_rowid, put_all, edit_of}
use Rattle.sqlite_rules.specs.declared.error.Refusal.{Refusal}
use Rattle.sqlite_rules.specs.Keys.{conflicts, AreConflicts}
use Rattle.mstore.proofs.Texts.{put_is, put_command, put_query, put_clauses, put_source, program, at_rowid}
use Rattle.mstore.proofs.Casts.{cast_null, cast_int}
use Rattle.mstore.proofs.Answer.{rows_from, rows_to, has_mapped, mapped_has, passes}
use Rattle.mstore.proofs.RowTests.{key_column}
use Rattle.mstore.proofs.Edits.{IsLeft, left_is, lookup_same, taken_own}
use Rattle.mstore.proofs.Maps.{lookup_has, at_itself}
use Rattle.mstore.proofs.Writes.{went, same_value, inserted, idle_after, task}

abbrev pub row_of : ℤ → List ℕ → List ℕ → Row
row_of id k v = Int id ∷ Blob k ∷ Blob v ∷ []

-- a number that a row has, or the next one
abbrev pub IsNumbered : List Row → ℤ → Type 0
IsNumbered rows id = (id ≡ next_rowid rows) ⊎ ((r : Row) × Has rows r × (id ≡ id_in (rowid r)))

-- the next rows are those that stay, and the new one
pub record IsPut (rows next : List Row) (k v : List ℕ) : Type 0 where
  pub id : ℤ
  pub added : Has next (row_of id k v)
  pub from : (r : Row) → Has next r → (r ≡ row_of id k v) ⊎ (Has rows r × (key_of r ≢ k))
  pub stays : (r : Row) → Has rows r → key_of r ≢ k → Has next r
  pub free : (r : Row) → Has rows r → key_of r ≢ k → rowid r ≢ Int id
  pub numbered : IsNumbered rows id

pub put_nodes : {F : List ℕ → List ℕ → Type 0} (rows next : List Row) (k v : List ℕ) → F k v → AreRows F rows → IsPut rows next k v → AreRows F next
put_nodes {F} rows next k v right nodes put = record {
  each = λ r h. elim (put.from r h) [ inl same ↦ subst IsNode (sym same) refl | inr was ↦ nodes.each r was.0 ];
  in_form = λ r h. elim (put.from r h) [ inl same ↦ subst (λ s. F (key_of s) (value_of s)) (sym same) right | inr was ↦ nodes.in_form r was.0 ];
  ids = λ r s h j same. elim (put.from r h) [
    | inl a ↦ elim (put.from s j) [ inl b ↦ a ∙ sym b | inr b ↦ absurd (put.free s b.0 b.1 (sym same ∙ ap rowid a)) ]
    | inr a ↦ elim (put.from s j) [ inl b ↦ absurd (put.free r a.0 a.1 (same ∙ ap rowid b)) | inr b ↦ nodes.ids r s a.0 b.0 same ]
  ];
  keys = λ r s h j same. elim (put.from r h) [
    | inl a ↦ elim (put.from s j) [ inl b ↦ a ∙ sym b | inr b ↦ absurd (b.1 (sym same ∙ ap key_of a)) ]
    | inr a ↦ elim (put.from s j) [ inl b ↦ absurd (a.1 (same ∙ ap key_of b)) | inr b ↦ nodes.keys r s a.0 b.0 same ]
  ];
}

pub put_map : {F : List ℕ → List ℕ → Type 0} (rows next : List Row) (k v : List ℕ) → F k v → AreRows F rows → IsPut rows next k v → PutsAt (lookup rows) (lookup next) k v
put_map rows next k v right nodes put = record {
  at = lookup_has next (row_of put.id k v) (put_nodes rows next k v right nodes put) put.added;
  others = λ q other. lookup_same rows next q nodes (put_nodes rows next k v right nodes put)
      (λ r same h. put.stays r h (λ here. other (sym same ∙ here)))
      (λ r same h. elim (put.from r h) [ inl a ↦ absurd (other (sym same ∙ ap key_of a)) | inr a ↦ a.0 ]);
}

or_false : (b : Bool) → (b || false) ≡ b
or_false b = grind arith

pub not_at : (k : List ℕ) (r : Row) → key_of r ≢ k → is_at k r ≡ false
not_at k r other = false_from_ne_true (is_at k r) (λ h. other (same_bytes (key_of r) k h))

-- the new rows are copies of one, put where the others are left
module _ (rows left news next : List Row) (k v : List ℕ) (id : ℤ) (kept : IsLeft rows left (is_at k)) (is : next ≡ put_all left news) (free : are_fresh left news ≡ true)
    (copies : (x : Row) → Has news x → x ≡ row_of id k v) (some : Has news (row_of id k v)) (numbered : IsNumbered rows id) where
  untaken : (all : List Row) → are_fresh left all ≡ true → ((x : Row) → Has all x → x ≡ row_of id k v) → Has all (row_of id k v) → is_taken left (row_of id k v) ≡ false
  untaken [] ok each h = absurd h
  untaken (n ∷ more) ok each h = subst (λ r. is_taken left r ≡ false) (each n (inl refl)) (not-true _ (and_parts _ _ ok).0)

  pub put_is_made : IsPut rows next k v
  put_is_made = record {
    id = id;
    added = subst (λ l. Has l (row_of id k v)) (sym is) (put_all_adds news left (row_of id k v) free some);
    from = λ r h. elim (put_all_has news left r (subst (λ l. Has l r) is h)) [
      | inl new ↦ inl (copies r new)
      | inr was ↦ let it = kept.was r was in inr (it.0, λ same. true≢false (sym (at_itself r k same) ∙ it.1))
    ];
    stays = λ r h other. subst (λ l. Has l r) (sym is) (put_all_keeps news left r free (kept.stays r h (not_at k r other)));
    free = λ r h other same. true≢false (sym (taken_own left r (row_of id k v) (kept.stays r h (not_at k r other)) same) ∙ untaken news free copies some);
    numbered = numbered;
  }

pub int_same : (m n : ℤ) → int_eq m n ≡ true → m ≡ n
int_same m n h = grind (arith, ints)

pub int_itself : (m : ℤ) → int_eq m m ≡ true
int_itself m = grind (arith, ints)

-- the table of the version is another one
pub meta_apart : ◌≡◌ {A = ℕ} 2 0 → ⊥
meta_apart e = absurd (omega (arith, e))

module _ {F : List ℕ → List ℕ → Type 0} (old : State) (has_schema : old.now.schema ≡ schema) (nodes : AreRows F (old.now.trees 0)) (k v : List ℕ) where
  abbrev params : Row
  params = Blob k ∷ Blob v ∷ []

  abbrev rows : List Row
  rows = old.now.trees 0

  -- the row is put, and the version's table is as it was
  abbrev IsMade : Trees → Type 0
  IsMade next = IsPut rows (next 0) k v × (next 2 ≡ old.now.trees 2)

  abbrev fresh : Row
  fresh = row_of (next_rowid rows) k v

  -- a row conflicts where it has the key
  pub conflict_is : (r : Row) → IsNode r → conflicts (Some (1 ∷ [])) schema.indexes node fresh r ≡ is_at k r
  conflict_is r n = ap (λ (f : Key). is_true (binary (Compare Eq f.collation) (column r 1) (Blob k)) && true || false) first_key-plain ∙ or_false _ ∙ last_term (ap (λ x. is_true (binary (Compare Eq Binary) x (Blob k))) (key_column r n) ∙ at_blobs false Eq (key_of r) k)

  pub none_at : AreConflicts (Some (1 ∷ [])) schema.indexes node rows fresh [] → (r : Row) → Has rows r → key_of r ≢ k
  none_at are r h same = are.complete r h (conflict_is r (nodes.each r h) ∙ at_itself r k same)

  -- a key that is not there
  puts_new : (one : Written) → ((r : Row) → Has rows r → key_of r ≢ k) → Puts (task old params) fresh old.now.trees (Ok one) → IsMade one.trees
  puts_new one none h =
      let made = went h in
      let edit = edit_of old.now.trees node [] Given 0 (fresh ∷ []) in
      let step = one_step schema Enforced old.now.trees made.0 edit refl made.1 in
      let news : edit.news ≡ fresh ∷ [] = ap (λ i. (i ∷ Blob k ∷ Blob v ∷ []) ∷ []) (cast_int (next_rowid rows)) in
      let trees : one.trees 0 ≡ made.0 0 = ap (λ (it : Written). it.trees 0) (same_value made.2) in
      let kept : IsLeft rows rows (is_at k) = record { was = λ r here. (here, not_at k r (none r here)); stays = λ r here _. here } in
      let version : one.trees 2 ≡ old.now.trees 2 = ap (λ (it : Written). it.trees 2) (same_value made.2) ∙ step.tables.1.0 meta_apart in (
        put_is_made rows rows (fresh ∷ []) (one.trees 0) k v (next_rowid rows) kept (trees ∙ step.rows ∙ ap (put_all rows) news) (subst (λ l. are_fresh rows l ≡ true) news step.fresh)
            (λ x here. elim here [ inl same ↦ same | inr never ↦ absurd never ]) (inl refl) (inl refl),
        version,
      )

  -- a key that is there
  module _ (r : Row) (has : Has rows r) (same : key_of r ≡ k) (id : Value) where
    abbrev given_params : Row
    given_params = Blob k ∷ Blob v ∷ rowid r ∷ id ∷ Blob k ∷ Blob v ∷ []

    abbrev number : ℤ
    number = id_in (rowid r)

    pub own : (s : Row) → Has rows s → rowid s ≡ Int (id_in (rowid s))
    own s h = ap (λ t. rowid t) (nodes.each s h)

    abbrev full : Row
    full = rowid r ∷ rowid r ∷ column r 1 ∷ Blob v ∷ []

    pub passes_is : (s : Row) → Has rows s → passes at_rowid given_params s ≡ int_eq (id_in (rowid s)) number
    passes_is s h = last_term (ap₂ (λ a b. is_true (binary (Compare Eq Binary) a b)) (own s h) (own r has) ∙ at_ints false Eq (id_in (rowid s)) number)

    asked_from : (asked : List Row) → IsAnswer put_query (overlay old.now.trees []) given_params asked → (x : Row) → Has asked x → x ≡ full
    asked_from asked a x h =
        let it = rows_from at_rowid given_params (col 1 0 ∷ col 1 0 ∷ col 1 1 ∷ col 0 5 ∷ []) [] old.now.trees 0 refl asked a x h in
        let one = nodes.ids it.0 r it.1 has (own it.0 it.1 ∙ ap Int (int_same _ _ (sym (passes_is it.0 it.1) ∙ it.2)) ∙ sym (own r has)) in
        it.3 ∙ ap (λ s. rowid s ∷ rowid s ∷ column s 1 ∷ Blob v ∷ []) one

    asked_to : (asked : List Row) → IsAnswer put_query (overlay old.now.trees []) given_params asked → Has asked full
    asked_to asked a = rows_to at_rowid given_params (col 1 0 ∷ col 1 0 ∷ col 1 1 ∷ col 0 5 ∷ []) [] old.now.trees 0 refl asked a r has (passes_is r has ∙ int_itself number)

    abbrev cast_of : Row → Row
    cast_of s = cast_row node (drop 1 s)

    pub cast_full : cast_of full ≡ row_of number k v
    cast_full = ap₂ (λ a b. a ∷ b ∷ Blob v ∷ []) (ap (cast Integer) (own r has) ∙ cast_int number) (key_column r (nodes.each r has) ∙ ap Blob same)

    puts_over : (one : Written) → Updates (task old params) (program put_query) given_params old.now.trees (Ok one) → IsMade one.trees
    puts_over one did =
        let asked = went did in
        let made = went asked.2 in
        let a = asked.1.answer Null in
        let ids = ids_of asked.0 in
        let edit = edit_of old.now.trees node ids Given 1 asked.0 in
        let step = one_step schema Enforced old.now.trees made.0 edit refl made.1 in
        let left = without_all rows ids in
        let news : edit.news ≡ map cast_of asked.0 = given left (map cast_of asked.0) in
        let trees : one.trees 0 ≡ made.0 0 = ap (λ (it : Written). it.trees 0) (same_value made.2) in
        let kept = left_is rows nodes ids (is_at k)
        (λ d among. let x = has_mapped (λ s. id_in (rowid s)) asked.0 d among in (r, has, at_itself r k same, x.2 ∙ ap (λ s. id_in (rowid s)) (asked_from asked.0 a x.0 x.1)))
        (λ s here at.
        let one = nodes.keys s r here has (same_bytes (key_of s) k at ∙ sym same) in
        subst (λ t. Has ids (id_in (rowid t))) (sym one) (mapped_has (λ s. id_in (rowid s)) asked.0 full (asked_to asked.0 a))) in
        let version : one.trees 2 ≡ old.now.trees 2 = ap (λ (it : Written). it.trees 2) (same_value made.2) ∙ step.tables.1.0 meta_apart in (
          put_is_made rows left (map cast_of asked.0) (one.trees 0) k v number kept (trees ∙ step.rows ∙ ap (put_all left) news) (subst (λ l. are_fresh left l ≡ true) news step.fresh)
              (λ x here. let s = has_mapped cast_of asked.0 x here in s.2 ∙ ap cast_of (asked_from asked.0 a s.0 s.1) ∙ cast_full)
              (subst (Has (map cast_of asked.0)) cast_full (mapped_has cast_of asked.0 full (asked_to asked.0 a))) (inr (r, has, refl)),
          version,
        )

  clears : (one : Written) (found : List Row) → ((r : Row) → Has rows r → key_of r ≢ k) → Clears (task old params) Abort fresh old.now.trees found (Ok one) → IsMade one.trees
  clears one [] none h = puts_new one none h
  clears one (x ∷ more) none h = puts_new one none h

  meets : (one : Written) (found : List Row) → AreConflicts (Some (1 ∷ [])) schema.indexes node rows fresh found
      → Meets (task old params) (Upserts (task old params) Abort fresh old.now.trees []) fresh old.now.trees (record { target = Some (1 ∷ []); update = Some (program put_query) }) found (Ok one)
      → IsMade one.trees
  meets one [] are h = clears one h.0 (none_at are) h.2
  meets one (there ∷ more) are h =
      let it = are.sound there (inl refl) in
      let same = same_bytes (key_of it.0) k (sym (conflict_is it.0 (nodes.each it.0 it.1)) ∙ it.2) in
      puts_over it.0 it.1 same (Int (next_rowid rows)) one
      (subst (λ (x : Row). Updates (task old params) (program put_query) (Blob k ∷ Blob v ∷ rowid x ∷ Int (next_rowid rows) ∷ Blob k ∷ Blob v ∷ []) old.now.trees (Ok one)) it.3 h)

  judged : (one : Written) (verdict : Option Refusal) → Judged (task old params) Abort put_clauses fresh old.now.trees verdict (Ok one) → IsMade one.trees
  judged one None h = meets one h.0 h.1 h.2
  judged one (Some why) h = absurd cc

  tries : (one : Written) → Tries (task old params) Abort put_clauses fresh old.now.trees (Ok one) → IsMade one.trees
  tries one (inl h) = let e = h.1 in absurd cc
  tries one (inr h) = judged one h.0 h.2

  pub puts : (new : State) (count : ℕ) → Executes (sql Put) params old new (Ok count) → (new.now.schema ≡ schema) × (IsIdle old → IsIdle new) × IsPut rows (new.now.trees 0) k v × (new.now.trees 2 ≡ old.now.trees 2)
  puts new count h =
      let w = runs_as (sql Put) params old new schema has_schema put_command put_is.0 put_is.1 count h in
      let made = inserted old new has_schema params _ count put_source put_clauses w in
      let given = went made.1 in
      let counter = went given.2 in
      let each = went counter.2 in
      let counts = went each.2 in
      let tried = went (subst (λ l. TriesEach (task old params) Abort put_clauses l (count_of counter.0) (nothing old.now.trees) (Ok each.0)) given.1.1 each.1) in
      let put = tries tried.0 (subst (λ i. Tries (task old params) Abort put_clauses (with_rowid Chosen rows (i ∷ Blob k ∷ Blob v ∷ [])) old.now.trees (Ok tried.0)) cast_null tried.1) in
      let first : each.0.0.trees ≡ tried.0.trees = ap (λ (p : Written × ℤ). p.0.trees) (same_value tried.2) in
      let trees : made.0.trees ≡ tried.0.trees = ap (λ (it : Written). it.trees) (same_value counts.2) ∙ same_value counts.1 ∙ first in
      let now : new.now.trees ≡ tried.0.trees = ap (λ (d : Database). d.trees) made.2 ∙ trees in (
        ap (λ (d : Database). d.schema) made.2,
        idle_after old new put_command _ params count w,
        subst (λ (t : Trees). IsPut rows (t 0) k v) (sym now) put.0,
        ap (λ (t : Trees). t 2) now ∙ put.1,
      )
