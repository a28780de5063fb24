-- SPDX-License-Identifier: Apache-2.0
-- What may stop a statement that changes the table: nothing but a rowid that no row may have, among those that it puts.
use Rattle.mstore.proofs.Words.{arith, ◌≡◌, ◌⊎◌, ◌≤◌, cases_Bool, int_eq, ℕ, zero, suc, ℤ, pos, negsuc, Bool, true, false, not, ◌&&◌, List, [], ◌∷◌, length}
use Rattle.mstore.proofs.Words.{Option, Some, None, option_map, Result, Err, IsTrue, refl, sym, ap, subst, ◌∙◌, inl, inr, true≢false, false_from_ne_true}
use Rattle.mstore.proofs.Words.{and_parts, All-cons, All-nil, list_all, AllByRecursion, Value, Int, Blob, Row, column, Error, IsDatabase, Enforced, rowid, Has}
use Rattle.mstore.proofs.Words.{id_in, are_fresh, all_from, node, meta, schema, AreRows, IsNode, key_of, Trees, same_bytes, at_ints, at_blobs, last_term}
use Rattle.mstore.proofs.Words.{first_key-plain, plain, Key, is_at, ap₂, ints, is_true, binary, Binary, Compare, Ne, Eq, Ghosts, Held, state}
use Rattle.std.proofs.lemmas.List.{length-append}
use Rattle.std.proofs.lemmas.Nat.Bits.{bit_at-zero}
use Rattle.std.specs.Int.{bit_at}
use Rattle.std.specs.Float.{NotNan}
use Rattle.std.specs.Prelude.{nat_lt}
use lib.Ieee.{is_nan}
use Rattle.sqlite_value.specs.Order.{number}
use Rattle.sqlite_trees.specs.Tree.{IsTable, with_tree}
use Rattle.sqlite_trees.specs.View.{IsStorable, IsStorableRow, IsShaped, is_int}
use Rattle.sqlite_sql.specs.Ops.{fits_i64}
use Rattle.sqlite_sql.specs.Catalog.{entry_of}
use Rattle.sqlite_schema.specs.declared.schema.Constraint.TheVariants.{Datatype, NotNull, Check, PrimaryKey, Unique, ForeignKey}
use Rattle.sqlite_schema.specs.declared.schema.Index.{Index}
use Rattle.sqlite_schema.specs.Rules.{passes, Keeps, agree, clashes, guards, references_fit, table_reals, index_reals, differ}
use Rattle.sqlite_catalog.specs.Listing.{IsSound}
use Rattle.sqlite_catalog.proofs.LayoutLemmas.{table_shape, objects_rise}
use Rattle.sqlite_rules.specs.declared.error.Refusal.{Refusal}
use Rattle.sqlite_rules.specs.declared.error.Refusal.TheVariants.{Violates, Mismatch, NoRowid, BadReference, TooDeep}
use Rattle.sqlite_rules.specs.Edit.{Edit, IsRefused, IsOversized, left_by, edited, taken_by}
use Rattle.sqlite_rules.specs.Action.{works, Leads}
use Rattle.sqlite_rules.proofs.ListLemmas.{test_from, fails_has, some_has}
use Rattle.sqlite.specs.Effect.{edit_error}
use Rattle.sqlite.specs.Rows.{Edited}
use Rattle.mstore.specs.Room.{IsFaultless}
use Rattle.mstore.proofs.Puts.{int_same, row_of}
use Rattle.mstore.proofs.RowTests.{key_column}

-- what stopped it has a cause that is known
abbrev pub Wants : (Refusal → Type 0) → Option Error → Type 0
Wants Why None = ⊥
Wants Why (Some e) = (why : Refusal) × (e ≡ edit_error why) × Why why

pub same_stop : {B E : Type 0} {a b : E} → ◌≡◌ {A = Result B E} (Err a) (Err b) → a ≡ b
same_stop e = cc

-- ---- one edit

pub edit_stops : (Why : Refusal → Type 0) (db : Trees) (edit : Edit) → works schema Enforced 0 edit.table.tree (taken_by db edit) edit.news ≡ []
    → ((why : Refusal) → IsRefused schema Enforced db edit why → Why why)
    → ((row : Row) → Has edit.news row → IsOversized schema edit.table row → ⊥) → (s : Option Error) → Edited schema Enforced db edit (Err s) → Wants Why s
edit_stops Why db edit none refused small s (why, inl h, is) =
    subst (Wants Why) (sym (is ∙ ap (option_map edit_error) (same_stop h.2))) (h.0, refl, refused h.0 h.1)
edit_stops Why db edit none refused small s (why, inr (inl h), is) = absurd (small h.0 h.1 h.2)
edit_stops Why db edit none refused small s (why, inr (inr h), is) = absurd (settled h.2.0 (rw none at h.2.1))
  where
    settled : (n : ℕ) → Leads schema Enforced n h.0 [] (Err why) → ⊥
    settled zero led = let e = led.1 in cc
    settled (suc n) led = omega (arith, ap length led.2, length-append led.0 (led.1 ∷ []))

referred : (adds removes : Bool) → references_fit schema node adds removes ≡ true
referred true true = refl
referred true false = refl
referred false true = refl
referred false false = refl

-- the rows that an edit puts are copies of one row
module _ (Why : Refusal → Type 0) (db : Trees) (edit : Edit) (is : edit.table ≡ node) (id : ℤ) (k v : List ℕ) (copies : (x : Row) → Has edit.news x → x ≡ row_of id k v)
    (fresh : are_fresh (left_by db edit) edit.news ≡ true) (unique : (Keeps Unique schema (with_tree db edit.table.tree (edited db edit)) → ⊥) → Why (Violates Unique)) (fits : fits_i64 id ≡ false → Why NoRowid) where
  each : (test : Row → Bool) → test (row_of id k v) ≡ true → list_all test edit.news ≡ true
  each test holds = test_from test edit.news (λ x h. subst (λ r. test r ≡ true) (sym (copies x h)) holds)

  pub refusal_is : (why : Refusal) → IsRefused schema Enforced db edit why → Why why
  refusal_is (Violates Datatype) h =
      absurd (true≢false (sym (each (passes Datatype schema db node) refl) ∙ subst (λ t. list_all (passes Datatype schema db t) edit.news ≡ false) is h))
  refusal_is (Violates NotNull) h =
      absurd (true≢false (sym (each (passes NotNull schema db node) refl) ∙ subst (λ t. list_all (passes NotNull schema db t) edit.news ≡ false) is h))
  refusal_is (Violates Check) h =
      absurd (true≢false (sym (each (passes Check schema db node) refl) ∙ subst (λ t. list_all (passes Check schema db t) edit.news ≡ false) is h))
  refusal_is (Violates PrimaryKey) h = absurd (true≢false (sym fresh ∙ h))
  refusal_is (Violates Unique) h = unique h
  refusal_is (Violates ForeignKey) h = absurd h
  refusal_is Mismatch h = absurd (true≢false (sym (each (λ r. is_int (rowid r)) refl) ∙ h))
  refusal_is NoRowid h =
      let one = fails_has (λ r. fits_i64 (id_in (rowid r))) edit.news h in
      fits (subst (λ r. fits_i64 (id_in (rowid r)) ≡ false) (copies one.0 one.1) one.2)
  refusal_is BadReference h =
      absurd (true≢false (sym (referred _ _) ∙ subst (λ t. references_fit schema t (nat_lt 0 (length edit.news)) (nat_lt 0 (length edit.gone)) ≡ false) is h))
  refusal_is TooDeep h = absurd h

-- ---- a row is never too large

abbrev IsNumber : Value → Type 0
IsNumber v = NotNan (number v)

not_nan : (n : ℤ) → IsNumber (Int n)
unfolding is_nan
not_nan (pos n) = tt
not_nan (negsuc n) = tt

nor_bytes : (b : List ℕ) → IsNumber (Blob b)
unfolding is_nan
nor_bytes b = tt

pub storable_row : (id : ℤ) (k v : List ℕ) → length k ≤ 5000 → length v ≤ 4095 → IsStorableRow (table_reals node) (row_of id k v)
storable_row id k v short low = (
  record {
    typed = typed;
    columns = (omega arith, omega arith);
    numbers =
        All-cons IsNumber (Int id) (Blob k ∷ Blob v ∷ []) (not_nan id)
        (All-cons IsNumber (Blob k) (Blob v ∷ []) (nor_bytes k) (All-cons IsNumber (Blob v) [] (nor_bytes v) (All-nil IsNumber)));
    short = omega (arith, short, low);
  },
  omega arith,
)
  where
    typed : (c : ℕ) → bit_at (table_reals node) c ≡ 1 → is_int (column (row_of id k v) c) ≡ false
    typed c h = absurd (omega (arith, sym (bit_at-zero c) ∙ h))

pub storable_entry : (id : ℤ) (k v : List ℕ) → length k ≤ 5000 → IsStorable (index_reals (table_reals node) (1 ∷ [])) (entry_of (1 ∷ []) (row_of id k v))
storable_entry id k v short = record {
  typed = typed;
  columns = (omega arith, omega arith);
  numbers = All-cons IsNumber (Blob k) (Int id ∷ []) (nor_bytes k) (All-cons IsNumber (Int id) [] (not_nan id) (All-nil IsNumber));
  short = omega (arith, short);
}
  where
    typed : (c : ℕ) → bit_at (index_reals (table_reals node) (1 ∷ [])) c ≡ 1 → is_int (column (entry_of (1 ∷ []) (row_of id k v)) c) ≡ false
    typed c h = absurd (omega (arith, sym (bit_at-zero c) ∙ h))

pub never_oversized : (id : ℤ) (k v : List ℕ) → length k ≤ 5000 → length v ≤ 4095 → IsOversized schema node (row_of id k v) → ⊥
never_oversized id k v short low (inl h) = h (storable_row id k v short low)
never_oversized id k v short low (inr h) = h.3 (entry h.0 h.1)
  where
    entry : (i : Index) → Has schema.indexes i → IsStorable (index_reals (table_reals node) i.columns) (entry_of i.columns (row_of id k v))
    entry i (inl same) =
        subst (λ (i : Index). IsStorable (index_reals (table_reals node) i.columns) (entry_of i.columns (row_of id k v))) (sym same)
        (storable_entry id k v short)
    entry i (inr (inr never)) = absurd never
    entry i (inr (inl same)) =
        subst (λ (i : Index). IsStorable (index_reals (table_reals node) i.columns) (entry_of i.columns (row_of id k v))) (sym same)
        (storable_entry id k v short)

-- ---- no two rows have one key

pub agree_is : (a b : Row) → IsNode a → IsNode b → agree plain (1 ∷ []) a (1 ∷ []) b ≡ is_at (key_of b) a
agree_is a b m n =
    ap (λ (f : Key). is_true (binary (Compare Eq f.collation) (column a 1) (column b 1)) && true) first_key-plain
    ∙ last_term (ap₂ (λ x y. is_true (binary (Compare Eq Binary) x y)) (key_column a m) (key_column b n) ∙ at_blobs false Eq (key_of a) (key_of b))

alike : (n : ℤ) → differ (Int n) (Int n) ≡ true → ⊥
alike n h = let e = sym (at_ints false Ne n n) ∙ h in absurd (grind (arith, ints))

own_id : (r : Row) → IsNode r → rowid r ≡ Int (id_in (rowid r))
own_id r node = ap (λ s. rowid s) node

-- two rows have one number, or two
pub same_or_differ : (a b : Row) → IsNode a → IsNode b → (rowid a ≡ rowid b) ⊎ (differ (rowid a) (rowid b) ≡ true)
same_or_differ a b m n =
    let i = id_in (rowid a) in
    let j = id_in (rowid b) in
    elim (cases_Bool (int_eq i j)) [
      | inl same ↦ inl (own_id a m ∙ ap Int (int_same i j same) ∙ sym (own_id b n))
      | inr other ↦ inr (ap₂ differ (own_id a m) (own_id b n) ∙ at_ints false Ne i j ∙ ap not other)
    ]

module _ {F : List ℕ → List ℕ → Type 0} (rows : List Row) (nodes : AreRows F rows) where
  no_clash : (row : Row) → Has rows row → clashes plain (1 ∷ []) rows row ≡ false
  no_clash row h = false_from_ne_true _ (λ any.
      let it = some_has (λ other. agree plain (1 ∷ []) other (1 ∷ []) row && differ (rowid other) (rowid row)) rows any in
      let parts = and_parts _ _ it.2 in
      let one = nodes.keys it.0 row it.1 h (same_bytes (key_of it.0) (key_of row) (sym (agree_is it.0 row (nodes.each it.0 it.1) (nodes.each row h)) ∙ parts.0)) in
      let apart : differ (rowid row) (rowid row) ≡ true = subst (λ (r : Row). differ (rowid r) (rowid row) ≡ true) one parts.1 in
      alike (id_in (rowid row)) (subst (λ v. differ v v ≡ true) (own_id row (nodes.each row h)) apart))

  passes_unique : (db : Trees) → db 0 ≡ rows → (row : Row) → Has rows row → passes Unique schema db node row ≡ true
  passes_unique db is row h = rw is (rw (no_clash row h) refl)

  -- so the rule stands in trees that have these rows, and the other table as it was
  pub unique_in : (was db : Trees) → db 0 ≡ rows → db 2 ≡ was 2 → IsSound schema was → Keeps Unique schema db
  unique_in was db is same sound = (
    subst (λ l. AllByRecursion (λ row. passes Unique schema db node row ≡ true) l) (sym is) (all_from _ rows (λ row h. passes_unique db is row h)),
    (subst (λ l. AllByRecursion (λ row. list_all (λ i. not (guards i meta && clashes i.order i.columns l row)) schema.indexes ≡ true) l) (sym same) (sound.obeys.rules Unique).1.0, tt),
  )

pub fewer : {F : List ℕ → List ℕ → Type 0} (rows next : List Row) → AreRows F rows → ((r : Row) → Has next r → Has rows r) → AreRows F next
fewer rows next nodes was = record {
  each = λ r h. nodes.each r (was r h);
  in_form = λ r h. nodes.in_form r (was r h);
  ids = λ r s h j. nodes.ids r s (was r h) (was s j);
  keys = λ r s h j. nodes.keys r s (was r h) (was s j);
}

-- ---- the rows are in the order of their rowids

pub in_order : {S : Type 0} (g : Ghosts S) (h : Held S) → IsFaultless g → (state g h).now.schema ≡ schema → IsDatabase (state g h).now
    → IsTable ((state g h).now.trees 0) × AllByRecursion (λ r. IsTrue (is_int (rowid r))) ((state g h).now.trees 0)
in_order g h beneath has sound =
    let v = g.view h.store in
    let listed = beneath.listed h.store in
    let ordered = beneath.ordered h.store in
    let are = (subst (λ s. IsSound s v.trees) has sound).lists.listed in
    let is = (table_shape listed (objects_rise v listed ordered).0 are node (inl refl)).0 in
    subst (λ s. IsShaped s (v.trees 0)) is (ordered 0)
