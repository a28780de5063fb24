-- SPDX-License-Identifier: Apache-2.0
-- The first key of a range, and the last.
use Rattle.mstore.proofs.Words.{◌≡◌, ℕ, suc, ◌<◌, Bool, true, false, List, [], ◌∷◌, length, get_or, map, Option, Some, None, Ok, Err, refl, sym, ap, ap₂, subst}
use Rattle.mstore.proofs.Words.{◌∙◌, inl, inr, arith, IsSorted, sorted_far, ranks_by, Value, Null, Blob, Row, column, Binary, Key, by_key_total, then-Equal}
use Rattle.mstore.proofs.Words.{value_cmp-Blob, col, IsAnswer, output, output_cmp, Output, overlay, State, QueryReturnedNoRows, first_as, reads_as, Has, by_key}
use Rattle.mstore.proofs.Words.{QueriesRow, schema, IsStore, content, in_bounds, is_nearer, IsNearest, HasNone, key_of, lookup, Step, sql}
use Rattle.std.proofs.Common.{IsSome, is_lt, IsSortedBy}
use Rattle.mstore.proofs.Texts.{Asks, step_is, step_query, step_command, in_range}
use Rattle.mstore.proofs.Answer.{outputs_from, outputs_to, rows_to}
use Rattle.mstore.proofs.Maps.{lookup_has, lookup_none, lookup_some}
use Rattle.mstore.proofs.States.{asks_plain, no_row_is}
use Rattle.mstore.proofs.RowTests.{in_range_is, key_column}

pub there_is : (rows : List Row) (q : List ℕ) → IsSome (lookup rows q) → (r : Row) × Has rows r × (key_of r ≡ q)
there_is rows q h = go (lookup rows q) refl h
  where
    go : (o : Option (List ℕ)) → lookup rows q ≡ o → IsSome o → (r : Row) × Has rows r × (key_of r ≡ q)
    go None e none = absurd cc
    go (Some v) e some = let it = lookup_some rows q v e in (it.0, it.1, it.2)

pub has_index : {X : Type 0} (xs : List X) (x d : X) → Has xs x → (j : ℕ) × (j < length xs) × (get_or xs j d ≡ x)
has_index [] x d h = absurd h
has_index (y ∷ xs) x d (inl same) = (0, omega arith, sym same)
has_index (y ∷ xs) x d (inr later) = let it = has_index xs x d later in (suc it.0, omega (arith, it.1), it.2)

abbrev pub end_key : Bool → Key
end_key down = record { collation = Binary; descending = down }

abbrev pub sorts_by : Output → Value
sorts_by o = column o.0 0

-- no output of the answer is before the first
first_is_least : (down : Bool) (o : Output) (rest : List Output) → IsSorted (output_cmp (step_query down)) (o ∷ rest) → (x : Output) → Has (o ∷ rest) x
    → is_lt (by_key (end_key down) (sorts_by x) (sorts_by o)) ≡ false
first_is_least down o rest sorted x h =
    let at = has_index (o ∷ rest) x o h in
    let plain : IsSortedBy (λ (a b : Output). is_lt (by_key (end_key down) (sorts_by a) (sorts_by b))) (o ∷ rest) =
    λ k d low high. ap is_lt (sym (then-Equal _)) ∙ sorted k d low high in
    let far = sorted_far _ (ranks_by (by_key_total (end_key down)) sorts_by) (o ∷ rest) plain 0 at.0 o (omega arith) at.1 in
    subst (λ y. is_lt (by_key (end_key down) (sorts_by y) (sorts_by o)) ≡ false) at.2 far

nearer_is : (down : Bool) (k q : List ℕ) → is_lt (by_key (end_key down) (Blob q) (Blob k)) ≡ false → is_nearer down k q ≡ false
nearer_is false k q h = ap is_lt (sym (value_cmp-Blob q k)) ∙ h
nearer_is true k q h = ap is_lt (sym (value_cmp-Blob k q)) ∙ h

module _ (down : Bool) (old new : State) (store : IsStore old) (low high : List ℕ) where
  abbrev is : Asks (Step down) (step_command down)
  is = step_is down

  abbrev params : Row
  params = Blob low ∷ Blob high ∷ []

  abbrev rows : List Row
  rows = old.now.trees 0

  nearest : (row : Row) (tail : List Row) (a : IsAnswer (step_query down) (overlay old.now.trees []) params (row ∷ tail)) (ordered : List Output)
      → a.ordered ≡ ordered
      → (k : List ℕ) × (row ≡ Blob k ∷ []) × IsNearest down (content old) low high k
  nearest row tail a [] none = absurd (let e = a.shown ∙ ap (map (λ (o : Output). o.1)) none in cc)
  nearest row tail a (o ∷ rest) some =
      let nodes = store.nodes in
      let here : Has a.ordered o = subst (λ l. Has l o) (sym some) (inl refl) in
      let it = outputs_from in_range params (col 1 1 ∷ []) (Rattle.mstore.proofs.Texts.by_key down) old.now.trees 0 refl (row ∷ tail) a o here in
      let r = it.0 in
      let column_is = key_column r (nodes.each r it.1) in
      let shown : row ≡ o.1 = let e = a.shown ∙ ap (map (λ (o : Output). o.1)) some in cc in
      let sorted = subst (IsSorted (output_cmp (step_query down))) some a.sorted in (
        key_of r,
        shown ∙ ap (λ (x : Output). x.1) it.3 ∙ ap (λ v. v ∷ []) column_is,
        record {
          some = subst IsSome (sym (lookup_has rows r nodes it.1)) refl;
          within = sym (in_range_is low high r (nodes.each r it.1)) ∙ it.2;
          none_nearer = λ q is_there within.
              let other = there_is rows q is_there in
              let s = other.0 in
              let pass = in_range_is low high s (nodes.each s other.1) ∙ ap (in_bounds low high) other.2 ∙ within in
              let x = output (step_query down) (params ∷ s ∷ []) in
              let among : Has (o ∷ rest) x = subst (λ l. Has l x) some (outputs_to in_range params (col 1 1 ∷ []) (Rattle.mstore.proofs.Texts.by_key down) old.now.trees 0 refl (row ∷ tail) a s other.1 pass) in
              let least = first_is_least down o rest sorted x among in
              nearer_is down (key_of r) q (sym (ap₂ (λ u v. is_lt (by_key (end_key down) u v)) (key_column s (nodes.each s other.1) ∙ ap Blob other.2) (ap sorts_by it.3 ∙ column_is)) ∙ least);
        },
      )

  pub steps : (row : Row) → QueriesRow (sql (Step down)) params old new (Ok row) → (k : List ℕ) × (row ≡ Blob k ∷ []) × IsNearest down (content old) low high k
  steps row h =
      let got = (first_as (sql (Step down)) params old new schema store.calm.schema_is (step_command down) is.0 is.1 is.2 row h).1 in
      nearest row got.0 (got.1 Null) (got.1 Null).ordered refl

  pub steps_none : QueriesRow (sql (Step down)) params old new (Err QueryReturnedNoRows) → HasNone (content old) low high
  steps_none h q within =
      let shown = no_row_is (sql (Step down)) params old new (asks_plain (Step down) (step_command down) is old store.calm.schema_is) h in
      let a = (reads_as (sql (Step down)) params old new schema store.calm.schema_is (step_command down) is.0 is.1 is.2 [] shown).answer Null in
      lookup_none rows q (λ r has same.
      rows_to in_range params (col 1 1 ∷ []) (Rattle.mstore.proofs.Texts.by_key down) old.now.trees 0 refl [] a r has
      (in_range_is low high r (store.nodes.each r has) ∙ ap (in_bounds low high) same ∙ within))
