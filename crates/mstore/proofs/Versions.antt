-- SPDX-License-Identifier: Apache-2.0
-- The row of the version.
use Rattle.mstore.proofs.Words.{◌≡◌, ◌≢◌, ◌≤◌, ◌<◌, ◌++◌, ℕ, ℤ, zero, suc, arith, length, Result, Ok, Err, IfOk, OnOk, true, false, List, [], ◌∷◌, codes, Some}
use Rattle.mstore.proofs.Words.{None, Option, refl, sym, ap, subst, ◌∙◌, inl, inr, IsTrue, Value, Null, Int, Real, Blob, Row, column, Binary, col, is_true}
use Rattle.mstore.proofs.Words.{Compare, Eq, at_texts, last_term, same_bytes, bytes_eq_refl, Database, GivesVersion, OnlyGives, number_of, this_version}
use Rattle.mstore.proofs.Words.{old_version, IsAnswer, overlay, Has, Shown, version_name, State, reads_as, value_cmp, binary, and_parts, schema, Which, IsCalm}
use Rattle.mstore.proofs.Words.{Stays, ShowsVersion, sql}
use Rattle.sqlite.specs.declared.types.Value.TheVariants.{Text}
use Rattle.std.proofs.Common.{length-append}
use Rattle.std.specs.Prelude.{◌↔◌, IsSome}
use Rattle.std.specs.Option.{option_to_list}
use Rattle.mstore.specs.Database.{IsOtherVersion}
use Rattle.mstore.specs.declared.version.Version.{Version}
use Rattle.mstore.specs.declared.open_fault.OpenFault.{OpenFault}
use Rattle.mstore.proofs.Texts.{which_is, which_command, at_name, table_query}
use Rattle.mstore.proofs.Answer.{rows_from, rows_to}
use Rattle.mstore.proofs.States.{asks_plain, shown_stays}

-- a value is equal to a text only if it is that text
pub equal_text : (v : Value) (t : List ℕ) → is_true (binary (Compare Eq Binary) v (Text t)) ≡ true → v ≡ Text t
unfolding binary value_cmp
equal_text Null t h = absurd cc
equal_text (Int n) t h = absurd cc
equal_text (Real x) t h = absurd cc
equal_text (Text s) t h = ap Text (same_bytes s t (sym (at_texts false Eq s t) ∙ h))
equal_text (Blob b) t h = absurd cc

pub text_equal : (v : Value) (t : List ℕ) → v ≡ Text t → is_true (binary (Compare Eq Binary) v (Text t)) ≡ true
text_equal v t same = subst (λ u. is_true (binary (Compare Eq Binary) u (Text t)) ≡ true) (sym same) (at_texts false Eq t t ∙ bytes_eq_refl t)

-- the rows that are shown give the version, and no other row does
module _ (old new : State) (shown : List Row) (has : old.now.schema ≡ schema) (h : Shown (sql Which) [] old new shown) where
  answer : IsAnswer (table_query 2 at_name (col 1 0 ∷ col 1 2 ∷ []) []) (overlay old.now.trees []) [] shown
  answer = (reads_as (sql Which) [] old new schema has which_command which_is.0 which_is.1 which_is.2 shown h).answer Null

  gives_from : (row : Row) → Has shown row → (r : Row) × Has (old.now.trees 2) r × (column r 1 ≡ version_name) × (row ≡ column r 0 ∷ column r 2 ∷ [])
  gives_from row among =
      let it = rows_from at_name [] (col 1 0 ∷ col 1 2 ∷ []) [] old.now.trees 2 refl shown answer row among in
      (it.0, it.1, equal_text (column it.0 1) (codes "version") (and_parts _ _ it.2).0, it.3)

  gives_to : (r : Row) → Has (old.now.trees 2) r → column r 1 ≡ version_name → Has shown (column r 0 ∷ column r 2 ∷ [])
  gives_to r here same = rows_to at_name [] (col 1 0 ∷ col 1 2 ∷ []) [] old.now.trees 2 refl shown answer r here (last_term (text_equal (column r 1) (codes "version") same))

one_shown : (a b c d : Value) → ◌≡◌ {A = Row} (a ∷ b ∷ []) (c ∷ d ∷ []) → (a ≡ c) × (b ≡ d)
one_shown a b c d e = (ap (λ (r : Row). column r 0) e, ap (λ (r : Row). column r 1) e)

empty : (l : List Row) → length l ≡ 0 → l ≡ []
empty [] h = refl
empty (r ∷ l) h = absurd (omega (arith, h))

-- the first of the rows that are shown, if there are not two
pub finds_version : (old new : State) (shown : List Row) (found : Option Row) → old.now.schema ≡ schema → Shown (sql Which) [] old new shown → shown ≡ option_to_list found → ShowsVersion old.now found
finds_version old new shown None has h is = λ r here same. let there : Has [] (column r 0 ∷ column r 2 ∷ []) = subst (λ l. Has l (column r 0 ∷ column r 2 ∷ [])) is (gives_to old new shown has h r here same) in there
finds_version old new shown (Some row) has h is =
    let it = gives_from old new shown has h row (subst (λ l. Has l row) (sym is) (inl refl)) in (
      column it.0 0,
      column it.0 2,
      it.3,
      (it.0, it.1, it.2, refl),
      λ r here same. elim (subst (λ l. Has l (column r 0 ∷ column r 2 ∷ [])) is (gives_to old new shown has h r here same)) [
        | inl one ↦ one_shown _ _ _ _ (one ∙ it.3)
        | inr other ↦ absurd other
      ],
    )

pub version_stays : (old new : State) (shown : List Row) → IsCalm old → IsTrue new.is_open → Shown (sql Which) [] old new shown → Stays old new
version_stays old new shown calm is_open h = shown_stays old new calm.idle is_open (sql Which) [] shown (asks_plain Which which_command which_is old calm.schema_is) h

-- a list of one row, or of none, from which the last was taken
pub popped : (before after : List Row) (found : Option Row) → before ≡ after ++ option_to_list found → length before ≤ 1 → IsSome found ↔ (0 < length before) → before ≡ option_to_list found
popped before after (Some row) is few there = is ∙ ap (λ l. l ++ row ∷ []) (empty after (omega (arith, few, ap length is, length-append after (row ∷ []))))
popped before after None is few there = empty before (none (length before) there)
  where
    none : (n : ℕ) → IsSome {T = Row} None ↔ (0 < n) → n ≡ 0
    none zero h = refl
    none (suc n) h = absurd (let e = h.1 (omega arith) in cc)

-- what the row that was found says
pub version_found : (db : Database) (row : Row) (r : Result Version OpenFault) → ShowsVersion db (Some row) → IfOk r (λ version. column row 1 ≡ number_of version) → OnOk r ((n : ℤ) × (column row 0 ≡ Int n))
    → IfOk r (λ version. GivesVersion db (number_of version) × OnlyGives db (number_of version))
version_found db row (Ok version) shows is id =
    let v : shows.1 ≡ number_of version = sym (ap (λ (x : Row). column x 1) shows.2) ∙ is in
    let first : shows.0 ≡ Int id.0 = sym (ap (λ (x : Row). column x 0) shows.2) ∙ id.1 in
    (subst (GivesVersion db) v shows.3, (id.0, λ r h named. let it = shows.4 r h named in (it.0 ∙ first, it.1 ∙ v)))
version_found db row (Err fault) shows is id = tt

pub version_other : (db : Database) (row : Row) → db.schema ≡ schema → ShowsVersion db (Some row) → (column row 1 ≢ this_version) × (column row 1 ≢ old_version) → IsOtherVersion db
version_other db row has shows other =
    let v = ap (λ (x : Row). column x 1) shows.2 in
    inr (has, inr (shows.1, shows.3, (λ e. other.0 (v ∙ e)), (λ e. other.1 (v ∙ e))))
