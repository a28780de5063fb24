-- SPDX-License-Identifier: Apache-2.0
-- What a stretch tells: the first key of a range, and the text at a key.
use Rattle.mstore.proofs.Words.{arith, ◌≡◌, ◌⊎◌, ◌-◌, ℕ, ◌<◌, ◌≤◌, Bool, true, false, List, length, get_or, slice_get, Option, Some, None, refl, sym, ap}
use Rattle.mstore.proofs.Words.{subst, ◌∙◌, inl, inr, cases_Bool, cases_lt, true≢false, is_eq, slice_cmp, nat_cmp, sorted_far, ranks_by}
use Rattle.mstore.proofs.Words.{nat_list_cmp_total, Row, Has, has_at, Content, HasNone, IsNearest, ShowsBytes, in_bounds, is_below, bytes_eq_refl, same_bytes}
use Rattle.std.proofs.Common.{IsSome}
use Rattle.std.proofs.lemmas.Bool.Decides.{nat_tests}
use Rattle.std.proofs.lemmas.List.{get_or_default}
use Rattle.std.proofs.lemmas.Option.{get_or_from_slice_get, slice_get_cases}
use Rattle.std.specs.List.Sorted.{IsPartitionedBy}
use Rattle.mstore.specs.Stretch.{AreInOrder, IsPlaceFor, Agrees, comes_before, IsStretch, ShowKey, key_before, key_from, row_before, shown_key, shown_text}
use Rattle.mstore.specs.declared.stretch.Stretch.{Stretch}
use Rattle.std.specs.Prelude.{◌==◌, Vec, IfSome, if◌then◌else◌, option_map}
use Rattle.std.specs.declared.alloc.Global.{Global}
use Rattle.mstore.proofs.Steps.{has_index}
use Rattle.mstore.proofs.KeyBounds.{above_on, below_not, below_on, on_below, not_itself, same_if, within_parts, within_is}

-- what holds of no value that is there holds of none
none_if : (o : Option (List ℕ)) → (IsSome o → ⊥) → o ≡ None
none_if None h = refl
none_if (Some v) h = absurd (h refl)

-- the row at a place, and none past the end
pub row_at : (rows : List Row) (i : ℕ) (row : Row) → slice_get rows i ≡ Some row → (i < length rows) × (get_or rows i row ≡ row)
row_at rows i row h = elim (slice_get_cases rows i).1 [
  | inl there ↦ (there.1, get_or_from_slice_get rows i row row h)
  | inr past ↦ absurd (let clash = sym past.1 ∙ h in cc)
]

pub past_at : (rows : List Row) (i : ℕ) → slice_get rows i ≡ None → length rows ≤ i
past_at rows i h = elim (slice_get_cases rows i).1 [
  | inl there ↦ absurd (let clash = sym there.2 ∙ h in cc)
  | inr past ↦ past.0
]

module _ (rows : List Row) (in_order : AreInOrder rows) where
  -- keys do not fall
  pub later_is : (i j : ℕ) (d : Row) → i ≤ j → j < length rows → is_below (shown_key (get_or rows j d)) (shown_key (get_or rows i d)) ≡ false
  later_is = sorted_far _ (ranks_by nat_list_cmp_total shown_key) rows in_order

  -- those before bytes come first
  pub parted : (bytes : List ℕ) → IsPartitionedBy (comes_before bytes) rows
  parted bytes i j d le within before = on_below (shown_key (get_or rows i d)) (shown_key (get_or rows j d)) bytes (later_is i j d le within) before

  module _ (low : List ℕ) (i : ℕ) (place : IsPlaceFor rows low i) where
    -- a key that is shown and not before these bytes is shown from their place on
    pub shown_from : (q : List ℕ) → ShowKey rows q → is_below q low ≡ false
        → (j : ℕ) × (i ≤ j) × (j < length rows) × ((d : Row) → shown_key (get_or rows j d) ≡ q)
    shown_from q h from =
        let at = has_index rows h.0 h.0 h.1 in
        let same : (d : Row) → get_or rows at.0 d ≡ h.0 = λ d. get_or_default rows at.0 d h.0 at.1 ∙ at.2 in
        elim (cases_lt at.0 i) [
          | inl before ↦ absurd (true≢false (sym (place.0 at.0 h.0 (omega arith) before) ∙ ap (λ r. is_below (shown_key r) low) at.2 ∙ ap (λ k. is_below k low) h.2 ∙ from))
          | inr after ↦ (at.0, after, at.1, λ d. ap shown_key (same d) ∙ h.2)
        ]

module _ (m : Content) (low high : List ℕ) (rows : List Row) (s : IsStretch m low high rows) (from to : List ℕ) (i : ℕ) (begins : is_below from low ≡ false)
    (place : IsPlaceFor rows from i) where
  -- a key of the range that is before the end of the stretch is shown
  among : (q : List ℕ) → IsSome (m q) → is_below q from ≡ false → is_below q high ≡ true
      → (j : ℕ) × (i ≤ j) × (j < length rows) × ((d : Row) → shown_key (get_or rows j d) ≡ q)
  among q some not_before before =
      shown_from rows s.in_order from i place q (s.all q some (within_is low high q (above_on q from low not_before begins) before)) not_before

  -- no row follows, and the range does not end later than the stretch
  pub none_past : slice_get rows i ≡ None → is_below high to ≡ false → HasNone m from to
  none_past none ends q within = none_if (m q) (λ some.
      let parts = within_parts from to q within in
      let it = among q some parts.0 (below_on q to high parts.1 ends) in
      let past = past_at rows i none in omega (arith, past, it.1, it.2))

  module _ (row : Row) (at : slice_get rows i ≡ Some row) where
    here : (i < length rows) × (get_or rows i row ≡ row)
    here = row_at rows i row at

    has_row : Has rows row
    has_row = has_at rows i row here.0 (sym here.1)

    not_before : is_below (shown_key row) from ≡ false
    not_before = ap (λ r. is_below (shown_key r) from) (sym here.1) ∙ place.1 i row (omega arith) here.0

    row_within : in_bounds low high (shown_key row) ≡ true
    row_within = within_is low high (shown_key row) (above_on (shown_key row) from low not_before begins) (s.below row has_row)

    -- a key of the range that is not after the row is not before it
    not_nearer : (q : List ℕ) → IsSome (m q) → is_below q from ≡ false → is_below q high ≡ true → is_below q (shown_key row) ≡ false
    not_nearer q some from_on before =
        let it = among q some from_on before in
        ap (λ k. is_below k (shown_key row)) (sym (it.3 row)) ∙ ap (λ r. is_below (shown_key (get_or rows it.0 row)) (shown_key r)) (sym here.1) ∙ later_is rows s.in_order i it.0 row it.1 it.2

    -- the row is the next in the range
    pub next_is : is_below (shown_key row) to ≡ true → IsNearest false m from to (shown_key row)
    next_is before = record {
      some = subst IsSome (sym (s.there row has_row row_within)) refl;
      within = within_is from to (shown_key row) not_before before;
      none_nearer = λ q some within.
          let parts = within_parts from to q within in
          elim (cases_Bool (is_below q (shown_key row))) [
            | inl nearer ↦ not_nearer q some parts.0 (below_on q (shown_key row) high nearer (below_not (shown_key row) high (s.below row has_row)))
            | inr not ↦ not
          ];
    }

    -- the row is after the range
    pub none_before : is_below (shown_key row) to ≡ false → HasNone m from to
    none_before after q within = none_if (m q) (λ some.
        let parts = within_parts from to q within in
        let nearer = below_on q to (shown_key row) parts.1 after in
        let before = below_on q (shown_key row) high nearer (below_not (shown_key row) high (s.below row has_row)) in
        true≢false (sym nearer ∙ not_nearer q some parts.0 before))

-- ---- the last key of a range

module _ (m : Content) (low high : List ℕ) (rows : List Row) (s : IsStretch m low high rows) (from to : List ℕ) (i : ℕ) (ends : is_below high to ≡ false)
    (place : IsPlaceFor rows to i) where
  -- a key of the range that is not before the begin of the stretch is shown before the place
  ahead : (q : List ℕ) → IsSome (m q) → is_below q low ≡ false → is_below q to ≡ true
      → (j : ℕ) × (j < i) × (j < length rows) × ((d : Row) → shown_key (get_or rows j d) ≡ q)
  ahead q some not_before before =
      let shown = s.all q some (within_is low high q not_before (below_on q to high before ends)) in
      let at = has_index rows shown.0 shown.0 shown.1 in
      let same : (d : Row) → get_or rows at.0 d ≡ shown.0 = λ d. get_or_default rows at.0 d shown.0 at.1 ∙ at.2 in
      elim (cases_lt at.0 i) [
        | inl early ↦ (at.0, early, at.1, λ d. ap shown_key (same d) ∙ shown.2)
        | inr late ↦
            absurd (true≢false (sym before ∙ ap (λ k. is_below k to) (sym shown.2) ∙ ap (λ r. is_below (shown_key r) to) (sym at.2) ∙ place.1 at.0 shown.0 late at.1))
      ]

  -- no row is before the range's end, and the range does not begin before the stretch
  pub none_ahead : i ≡ 0 → is_below from low ≡ false → HasNone m from to
  none_ahead none begins q within = none_if (m q) (λ some.
      let parts = within_parts from to q within in
      let it = ahead q some (above_on q from low parts.0 begins) parts.1 in
      omega (arith, none, it.1))

  module _ (row : Row) (some_before : 0 < i) (at : slice_get rows (i - 1) ≡ Some row) where
    there : (i - 1 < length rows) × (get_or rows (i - 1) row ≡ row)
    there = row_at rows (i - 1) row at

    has_it : Has rows row
    has_it = has_at rows (i - 1) row there.0 (sym there.1)

    -- a key of the range is not after the row
    not_later : (q : List ℕ) → IsSome (m q) → is_below q low ≡ false → is_below q to ≡ true → is_below (shown_key row) q ≡ false
    not_later q some not_before before =
        let it = ahead q some not_before before in
        ap (is_below (shown_key row)) (sym (it.3 row)) ∙ ap (λ r. is_below (shown_key r) (shown_key (get_or rows it.0 row))) (sym there.1)
        ∙ later_is rows s.in_order it.0 (i - 1) row (omega (arith, it.1)) there.0

    -- the row is before the stretch, and the range is not
    pub none_there : is_below (shown_key row) low ≡ true → is_below from low ≡ false → HasNone m from to
    none_there out begins q within = none_if (m q) (λ some.
        let parts = within_parts from to q within in
        let not_before = above_on q from low parts.0 begins in
        true≢false (sym (below_on (shown_key row) low q out not_before) ∙ not_later q some not_before parts.1))

    module _ (inside : is_below (shown_key row) low ≡ false) where
      before_end : is_below (shown_key row) to ≡ true
      before_end = ap (λ r. is_below (shown_key r) to) (sym there.1) ∙ place.0 (i - 1) row (omega arith) (omega (arith, some_before))

      is_within : in_bounds low high (shown_key row) ≡ true
      is_within = within_is low high (shown_key row) inside (s.below row has_it)

      -- it is the last in the range
      pub last_is : is_below (shown_key row) from ≡ false → IsNearest true m from to (shown_key row)
      last_is from_on = record {
        some = subst IsSome (sym (s.there row has_it is_within)) refl;
        within = within_is from to (shown_key row) from_on before_end;
        none_nearer = λ q some within.
            let parts = within_parts from to q within in
            elim (cases_Bool (is_below (shown_key row) q)) [
              | inl later ↦ not_later q some (above_on q (shown_key row) low (below_not (shown_key row) q later) inside) parts.1
              | inr not ↦ not
            ];
      }

      -- it is before the range
      pub none_after : is_below (shown_key row) from ≡ true → HasNone m from to
      none_after early q within = none_if (m q) (λ some.
          let parts = within_parts from to q within in
          let later = below_on (shown_key row) from q early parts.0 in
          true≢false (sym later ∙ not_later q some (above_on q (shown_key row) low (below_not (shown_key row) q later) inside) parts.1))

-- ---- a text

module _ (m : Content) (low high : List ℕ) (rows : List Row) (s : IsStretch m low high rows) (k : List ℕ) (i : ℕ) (within : in_bounds low high k ≡ true) (place : IsPlaceFor rows k i) where
  parts : (is_below k low ≡ false) × (is_below k high ≡ true)
  parts = within_parts low high k within

  pub no_text : slice_get rows i ≡ None → None ≡ m k
  no_text none = sym (none_if (m k) (λ some.
      let it = shown_from rows s.in_order k i place k (s.all k some within) (not_itself k) in
      let past = past_at rows i none in omega (arith, past, it.1, it.2)))

  module _ (row : Row) (at : slice_get rows i ≡ Some row) where
    at_place : (i < length rows) × (get_or rows i row ≡ row)
    at_place = row_at rows i row at

    pub no_text_at : is_eq (slice_cmp nat_cmp (shown_key row) k) ≡ false → None ≡ m k
    no_text_at other = sym (none_if (m k) (λ some.
        let it = shown_from rows s.in_order k i place k (s.all k some within) (not_itself k) in
        let not_less = ap (λ r. is_below (shown_key r) k) (sym at_place.1) ∙ place.1 i row (omega arith) at_place.0 in
        let not_more = ap (λ q. is_below q (shown_key row)) (sym (it.3 row)) ∙ ap (λ r. is_below (shown_key (get_or rows it.0 row)) (shown_key r)) (sym at_place.1) ∙ later_is rows s.in_order i it.0 row it.1 it.2 in
        let same = same_if (shown_key row) k not_less not_more in
        true≢false (sym (bytes_eq_refl k) ∙ ap (λ q. is_eq (slice_cmp nat_cmp q k)) (sym same) ∙ other)))

    pub text_at : is_eq (slice_cmp nat_cmp (shown_key row) k) ≡ true → m k ≡ Some (shown_text row)
    text_at same =
        let is = same_bytes (shown_key row) k same in
        subst (λ q. m q ≡ Some (shown_text row)) is (s.there row (has_at rows i row at_place.0 (sym at_place.1)) (ap (in_bounds low high) is ∙ within))

-- ---- as the code asks

is_zero : (i : ℕ) → (i == 0) ≡ true → i ≡ 0
is_zero i e = grind (arith, nat_tests)

not_zero : (i : ℕ) → (i == 0) ≡ false → 0 < i
not_zero i e = grind (arith, nat_tests)

by_zero : {A : Type 0} (x y : A) (i : ℕ) (P : A → Type 0) → P (if i == 0 then x else y) → ((i ≡ 0) × P x) ⊎ ((0 < i) × P y)
by_zero x y i P h = by_test (i == 0) refl h
  where
    by_test : (b : Bool) → (i == 0) ≡ b → P (if b then x else y) → ((i ≡ 0) × P x) ⊎ ((0 < i) × P y)
    by_test true e h = inl (is_zero i e, h)
    by_test false e h = inr (not_zero i e, h)

-- the row before a place within the rows is none only at their begin
at_begin : (rows : List Row) (i : ℕ) → i ≤ length rows → row_before rows i ≡ None → i ≡ 0
at_begin rows i bound none = elim (by_zero None (slice_get rows (i - 1)) i (λ o. o ≡ None) none) [
  | inl first ↦ first.0
  | inr later ↦ absurd (let past = past_at rows (i - 1) later.1 in omega (arith, past, bound, later.0))
]

row_before_is : (rows : List Row) (i : ℕ) (row : Row) → row_before rows i ≡ Some row → (0 < i) × (slice_get rows (i - 1) ≡ Some row)
row_before_is rows i row is = elim (by_zero None (slice_get rows (i - 1)) i (λ o. o ≡ Some row) is) [
  | inl first ↦ absurd (let clash = first.1 in cc)
  | inr later ↦ later
]

module _ (m : Content) (s : Stretch) (agree : Agrees m s) (from to : List ℕ) (i : ℕ) (begins : is_below from s.low.items ≡ false) (place : IsPlaceFor s.rows.items from i) where
  abbrev Tells : Option (List ℕ) → Type 0
  Tells = ShowsBytes false m from to

  abbrev TellsKey : Option (Vec ℕ Global) → Type 0
  TellsKey key = Tells (option_map (λ bytes. bytes.items) key)

  pub none_told : slice_get s.rows.items i ≡ None → (r : Option (Option (Vec ℕ Global))) → r ≡ (if is_below s.high.items to then None else Some None)
      → IfSome r TellsKey
  none_told none r is = subst (λ (o : Option (Option (Vec ℕ Global))). IfSome o TellsKey) (sym is) (by_end (is_below s.high.items to) refl)
    where
      by_end : (b : Bool) → is_below s.high.items to ≡ b → IfSome (if b then None else Some None) TellsKey
      by_end true e = tt
      by_end false e = none_past m s.low.items s.high.items s.rows.items agree from to i begins place none e

  pub row_told : (row : Row) → slice_get s.rows.items i ≡ Some row → (q : Option (List ℕ)) → q ≡ key_before row to → Tells q
  row_told row at q is = subst Tells (sym is) (by_key (is_below (shown_key row) to) refl)
    where
      by_key : (b : Bool) → is_below (shown_key row) to ≡ b → Tells (if b then Some (shown_key row) else None)
      by_key true e = next_is m s.low.items s.high.items s.rows.items agree from to i begins place row at e
      by_key false e = none_before m s.low.items s.high.items s.rows.items agree from to i begins place row at e

module _ (m : Content) (s : Stretch) (agree : Agrees m s) (from to : List ℕ) (i : ℕ) (ends : is_below s.high.items to ≡ false) (place : IsPlaceFor s.rows.items to i) where
  abbrev TellsLast : Option (List ℕ) → Type 0
  TellsLast = ShowsBytes true m from to

  abbrev TellsLastKey : Option (Vec ℕ Global) → Type 0
  TellsLastKey key = TellsLast (option_map (λ bytes. bytes.items) key)

  -- where none is there if the range begins in the stretch
  none_if_begun : (is_below from s.low.items ≡ false → HasNone m from to) → (r : Option (Option (Vec ℕ Global)))
      → r ≡ (if is_below from s.low.items then None else Some None)
      → IfSome r TellsLastKey
  none_if_begun none r is = subst (λ (o : Option (Option (Vec ℕ Global))). IfSome o TellsLastKey) (sym is) (by_begin (is_below from s.low.items) refl)
    where
      by_begin : (b : Bool) → is_below from s.low.items ≡ b → IfSome (if b then None else Some None) TellsLastKey
      by_begin true e = tt
      by_begin false e = none e

  pub none_told_last : i ≤ length s.rows.items → row_before s.rows.items i ≡ None → (r : Option (Option (Vec ℕ Global)))
      → r ≡ (if is_below from s.low.items then None else Some None)
      → IfSome r TellsLastKey
  none_told_last bound none r is =
      none_if_begun (none_ahead m s.low.items s.high.items s.rows.items agree from to i ends place (at_begin s.rows.items i bound none)) r is

  module _ (row : Row) (is_row : row_before s.rows.items i ≡ Some row) where
    at : (0 < i) × (slice_get s.rows.items (i - 1) ≡ Some row)
    at = row_before_is s.rows.items i row is_row

    pub out_told : is_below (shown_key row) s.low.items ≡ true → (r : Option (Option (Vec ℕ Global)))
        → r ≡ (if is_below from s.low.items then None else Some None)
        → IfSome r TellsLastKey
    out_told out r is = none_if_begun (none_there m s.low.items s.high.items s.rows.items agree from to i ends place row at.0 at.1 out) r is

    pub last_told : is_below (shown_key row) s.low.items ≡ false → (q : Option (List ℕ)) → q ≡ key_from row from → TellsLast q
    last_told inside q is = subst TellsLast (sym is) (by_key (is_below (shown_key row) from) refl)
      where
        by_key : (b : Bool) → is_below (shown_key row) from ≡ b → TellsLast (if b then None else Some (shown_key row))
        by_key true e = none_after m s.low.items s.high.items s.rows.items agree from to i ends place row at.0 at.1 inside e
        by_key false e = last_is m s.low.items s.high.items s.rows.items agree from to i ends place row at.0 at.1 inside e
