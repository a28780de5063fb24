-- SPDX-License-Identifier: Apache-2.0
-- A store of version 1 whose rows have all been moved.
use Rattle.mstore.proofs.Words.{arith, ◌≡◌, ℕ, true, false, List, [], ◌∷◌, drop, map, Option, Some, refl, sym, ap, ap₂, subst, ◌∙◌, inl, inr, OnErr, Result}
use Rattle.mstore.proofs.Words.{IsTrue, Value, Blob, Row, column, Has, all_from, Ghosts, Database, Held, state, Error, State, Shows, IsRolledBack}
use Rattle.mstore.proofs.Words.{FailsToCommit, Node, significant_digits, key_bytes, IsStored, IsKey, old_digits, none_empty, globals_by, AreKeyed, HoldBy}
use Rattle.mstore.proofs.Words.{AreRows, AreNodes, IsNode, IsInForm, IsInFormBy, IsValue, key_of, value_of, lookup, shown_of, version_name, old_version}
use Rattle.mstore.proofs.Words.{IsStore, IsUntouched, IsMigrated, HasVersion, OnlyGives, Int, ℤ, this_version, ShowsAll, content, IsAny, IsWorking, IsMoving}
use Rattle.mstore.proofs.Words.{IsOldStore, ShowContent}
use Rattle.mstore.proofs.Answer.{has_mapped, mapped_has}
use Rattle.mstore.proofs.Holding.{rows_held}
use Rattle.mstore.proofs.KeyedRows as keyed_rows
use Rattle.mstore.proofs.Maps.{lookup_some, lookup_has}
use Rattle.mstore.proofs.Moves.{one_node}
use Rattle.mstore.proofs.RowTests.{key_column, value_column}

pub any_rows : {F : List ℕ → List ℕ → Type 0} (rows : List Row) → AreRows F rows → AreRows IsAny rows
any_rows rows are = record { each = are.each; in_form = λ r h. tt; ids = are.ids; keys = are.keys }

same_bytes : (a b : List ℕ) → ◌≡◌ {A = Value} (Blob a) (Blob b) → a ≡ b
same_bytes a b e = cc

shown_is : (r : Row) → IsNode r → drop 1 (shown_of r) ≡ Blob (key_of r) ∷ Blob (value_of r) ∷ []
shown_is r node = ap₂ (λ a b. a ∷ b ∷ []) (key_column r node) (value_column r node)

-- what the rows show after their rowids is what the map has
pub shows_content : (s : State) (rows : List Row) → IsOldStore s → ShowsAll s rows → ShowContent (content s) (map (drop 1) rows)
shows_content s rows was shown = record {
  each = λ k v e.
      let it = lookup_some (s.now.trees 0) k v e in
      let r = it.0 in
      let form = was.rows.in_form r it.1 in (
        (form.0.0, (form.0.1.0, form.0.1.1 ∙ it.2)),
        subst (Has (map (drop 1) rows)) (shown_is r (was.rows.each r it.1) ∙ ap₂ (λ a b. Blob a ∷ Blob b ∷ []) it.2 it.3) (mapped_has (drop 1) rows (shown_of r) (shown.each r it.1)),
      );
  only = λ k v has.
      let of = has_mapped (drop 1) rows (Blob k ∷ Blob v ∷ []) has in
      let it = shown.only of.0 of.1 in
      let r = it.0 in
      let is : Blob k ∷ Blob v ∷ [] ≡ Blob (key_of r) ∷ Blob (value_of r) ∷ [] = of.2 ∙ ap (drop 1) it.2 ∙ shown_is r (was.rows.each r it.1) in
      let key : k ≡ key_of r = same_bytes k (key_of r) (ap (λ (x : Row). column x 0) is) in
      let value : v ≡ value_of r = same_bytes v (value_of r) (ap (λ (x : Row). column x 1) is) in
      ap (lookup (s.now.trees 0)) key ∙ lookup_has (s.now.trees 0) r was.rows it.1 ∙ ap Some (sym value);
}

same_option : (a b : Option (List ℕ)) → ((v : List ℕ) → a ≡ Some v → b ≡ Some v) → ((v : List ℕ) → b ≡ Some v → a ≡ Some v) → a ≡ b
same_option a b h e = grind arith

module _ (first last : List Row) (was : AreRows (IsInFormBy old_digits) first) (are : AreRows IsAny last) (moved : IsMoving (lookup first) (lookup last) []) where
  -- each row that there is now
  form_now : (r : Row) → Has last r → IsInForm (key_of r) (value_of r)
  form_now r has =
      let it = moved.back (key_of r) (value_of r) (lookup_has last r are has) in
      let before = lookup_some first (key_bytes old_digits it.0) (value_of r) it.2 in
      let value : IsValue (value_of r) = subst IsValue before.3 (was.in_form before.0 before.1).1 in
      elim it.3 [ inl at ↦ ((it.0, (it.1, sym at)), value) | inr later ↦ absurd later.1 ]

  pub nodes_now : AreNodes last
  nodes_now = record { each = are.each; in_form = form_now; ids = are.ids; keys = are.keys }

  keyed : AreKeyed key_of last
  keyed = all_from (λ r. IsKey (key_of r)) last (λ r has. (form_now r has).0)

  there : (n : Node) (v : List ℕ) → lookup last (key_bytes significant_digits n) ≡ Some v → lookup first (key_bytes old_digits n) ≡ Some v
  there n v e =
      let it = moved.back (key_bytes significant_digits n) v e in
      elim it.3 [ inl at ↦ ap (λ m. lookup first (key_bytes old_digits m)) (one_node significant_digits significant_digits n it.0 at) ∙ it.2 | inr later ↦ absurd later.1 ]

  back : (n : Node) → IsStored n → (v : List ℕ) → lookup first (key_bytes old_digits n) ≡ Some v → lookup last (key_bytes significant_digits n) ≡ Some v
  back n stored v e = elim (moved.forth n v stored e) [ inl at ↦ at | inr later ↦ absurd later.1 ]

  pub held_now : HoldBy old_digits first (globals_by key_of value_of last)
  held_now = record {
    each = was.in_form;
    held = rows_held last form_now;
    text = λ n stored. keyed_rows.gets key_of value_of last keyed n (none_empty n stored) ∙ same_option _ _ (there n) (back n stored);
  }

-- after the commit
module _ (old mid last new : State) (was : IsOldStore old) (working : IsWorking mid) (moved : IsMoving (content old) (content mid) []) (set : IsWorking last) (rows : last.now.trees 0 ≡ mid.now.trees 0)
    (version : HasVersion last.now this_version) (now : new.now ≡ last.now) (committed : new.committed ≡ last.now) (mode : new.in_transaction ≡ false) where
  same_rows : new.now.trees 0 ≡ mid.now.trees 0
  same_rows = ap (λ (d : Database). d.trees 0) now ∙ rows

  pub store_now : IsStore new
  store_now = record {
    calm = record { idle = record { autocommit = mode; settled = now ∙ sym committed }; schema_is = ap (λ (d : Database). d.schema) now ∙ set.schema_is };
    version = subst (λ (d : Database). HasVersion d this_version) (sym now) version;
    nodes = subst AreNodes (sym same_rows) (nodes_now (old.now.trees 0) (mid.now.trees 0) was.rows working.rows moved);
  }

  pub migrated_now : IsMigrated old new
  migrated_now = record {
    schema_is = was.calm.schema_is;
    was = was.version;
    is = subst (λ (d : Database). HasVersion d this_version) (sym now) version;
    same = subst (λ l. HoldBy old_digits (old.now.trees 0) (globals_by key_of value_of l)) (sym same_rows) (held_now (old.now.trees 0) (mid.now.trees 0) was.rows working.rows moved);
  }

-- ---- from the beginning of the transaction on

module _ {S : Type 0} (g : Ghosts S) (old start : Held S) (begun : start ≡ record old { in_transaction = true }) (was : IsOldStore (state g old)) where
  pub starts : IsWorking (state g start)
  starts = subst (λ h. IsWorking (state g h)) (sym begun) (record { inside = refl; schema_is = was.calm.schema_is; rows = any_rows _ was.rows })

  pub starts_shown : (rows : List Row) → ShowsAll (state g old) rows → ShowContent (content (state g start)) (map (drop 1) rows)
  starts_shown rows shown = subst (λ h. ShowContent (content (state g h)) (map (drop 1) rows)) (sym begun) (shows_content (state g old) rows was shown)

  abbrev Versioned : List Row → Type 0
  Versioned rows = ((r : Row) × Has rows r × (column r 1 ≡ version_name) × (column r 2 ≡ old_version)) × ((r s : Row) → Has rows r → Has rows s → column r 1 ≡ version_name → column s 1 ≡ version_name → r ≡ s)

  pub still_old : (mid : Held S) → (state g mid).now.trees 2 ≡ (state g start).now.trees 2 → HasVersion (state g mid).now old_version
  still_old mid same = subst Versioned (sym same) (subst (λ h. HasVersion (state g h).now old_version) (sym begun) was.version)

  pub still_only : (mid : Held S) → (state g mid).now.trees 2 ≡ (state g start).now.trees 2 → OnlyGives (state g mid).now old_version
  still_only mid same =
      subst (λ (rows : List Row). (n : ℤ) × ((r : Row) → Has rows r → column r 1 ≡ version_name → (column r 0 ≡ Int n) × (column r 2 ≡ old_version))) (sym same)
      (subst (λ h. OnlyGives (state g h).now old_version) (sym begun) was.only)

  module _ (mid last end : Held S) (working : IsWorking (state g mid)) (moved : IsMoving (content (state g start)) (content (state g mid)) []) (set : IsWorking (state g last))
      (rows : (state g last).now.trees 0 ≡ (state g mid).now.trees 0) (version : HasVersion (state g last).now this_version) (shows : Shows (state g last) (state g end) (state g last).now (state g last).now false) where
    moved_all : IsMoving (content (state g old)) (content (state g mid)) []
    moved_all = subst (λ h. IsMoving (content (state g h)) (content (state g mid)) []) begun moved

    pub ends_store : IsStore (state g end)
    ends_store = store_now (state g old) (state g mid) (state g last) (state g end) was working moved_all set rows version shows.now_is shows.committed_is shows.mode

    pub ends_migrated : IsMigrated (state g old) (state g end)
    ends_migrated = migrated_now (state g old) (state g mid) (state g last) (state g end) was working moved_all set rows version shows.now_is shows.committed_is shows.mode

  -- a transaction that is given up leaves the database as it was
  pub given_up : (mid end : Held S) → (state g mid).committed ≡ (state g start).committed → IsTrue (state g end).is_open → IsRolledBack (state g mid) (state g end) → IsUntouched (state g old) (state g end)
  given_up mid end kept is_open undone = grind arith

  pub not_committed : (last end : Held S) (e : Error) → IsWorking (state g last) → (state g last).committed ≡ (state g start).committed → IsTrue (state g end).is_open → FailsToCommit (state g last) (state g end) e → IsUntouched (state g old) (state g end)
  not_committed last end e h f k u = grind arith

pub on_err : {A E : Type 0} (P : Type 0) (r : Result A E) → P → OnErr r P
on_err P r h = grind arith
