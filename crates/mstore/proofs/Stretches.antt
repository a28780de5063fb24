-- SPDX-License-Identifier: Apache-2.0
-- How a stretch comes to be, and what a change of the map leaves of it.
use Rattle.mstore.proofs.Words.{arith, ◌≡◌, ◌⊎◌, ℕ, ◌-◌, ◌<◌, Bool, true, false, if◌then◌else◌, List, [], ◌∷◌, length, get_or, slice_get}
use Rattle.mstore.proofs.Words.{refl, sym, ap, subst, ◌∙◌, inl, inr, true≢false, ◌||◌, is_le, slice_cmp, nat_cmp, Row, Has, has_at, Content, in_bounds, is_below}
use Rattle.mstore.proofs.Words.{Err, Ok, OnOk, Result, is_ok}
use Rattle.std.proofs.Common.{IsSome, nat_lt}
use Rattle.std.proofs.lemmas.Bool.Decides.{nat_tests}
use Rattle.std.proofs.lemmas.Option.{slice_get-get_or}
use Rattle.std.proofs.lemmas.List.{get_or_default}
use Rattle.mstore.specs.Stretch.{AgreeBut, AgreeOutside, IsStretch, ShowsFirst, after, after_row, end_of, shown_key}
use Rattle.mstore.proofs.KeyBounds.{above_on, below_after, below_not, below_on, le_false, le_not, none_within, not_after, not_below_none, not_itself, on_below, outside_above, outside_below}
use Rattle.mstore.proofs.KeyBounds.{same_if, within_is, within_parts}
use Rattle.mstore.proofs.Steps.{has_index}
use Rattle.mstore.proofs.Within.{later_is}

-- none agrees with each map
pub no_rows : (m : Content) → IsStretch m [] [] []
no_rows m = record {
  in_order = λ k d low high. absurd (omega (arith, high));
  below = λ r h. absurd h;
  there = λ r h within. absurd h;
  all = λ k some within. absurd (true≢false (sym within ∙ none_within k));
}

pub no_rows_in : (m : Content) (low high : List ℕ) (rows : List Row) → low ≡ [] → high ≡ [] → rows ≡ [] → IsStretch m low high rows
no_rows_in m low high rows e f h =
    subst (λ l. IsStretch m l high rows) (sym e) (subst (λ l. IsStretch m [] l rows) (sym f) (subst (IsStretch m [] []) (sym h) (no_rows m)))

-- what holds of a call that was done
pub if_ok : {A E : Type 0} (P : Type 0) (r : Result A E) → is_ok r ≡ true → OnOk r P → P
if_ok P (Ok a) done p = p
if_ok P (Err e) done p = absurd (true≢false (sym done))

-- ---- rows that were shown

less_than : (m n : ℕ) → nat_lt m n ≡ true → m < n
less_than m n h = grind (arith, nat_tests)

module _ (m : Content) (low high : List ℕ) (most : ℕ) (rows : List Row) (first : ShowsFirst m low high most rows) where
  -- they are all of the range
  whole : length rows < most → IsStretch m low high rows
  whole fewer = record {
    in_order = first.in_order;
    below = λ r h. (within_parts low high (shown_key r) (first.each r h).0).1;
    there = λ r h within. (first.each r h).1;
    all = λ k some within. elim (first.all k some within) [
      | inl shown ↦ shown
      | inr later ↦ absurd (omega (arith, fewer, later.0))
    ];
  }

  -- they are all up to the last of them
  up_to : (last : Row) → Has rows last → ((r : Row) → Has rows r → is_below (shown_key last) (shown_key r) ≡ false)
      → IsStretch m low (after (shown_key last)) rows
  up_to last has greatest = record {
    in_order = first.in_order;
    below = λ r h. on_below (shown_key r) (shown_key last) (after (shown_key last)) (greatest r h) (below_after (shown_key last));
    there = λ r h within. (first.each r h).1;
    all = λ k some within.
        let parts = within_parts low (after (shown_key last)) k within in
        let not_later = not_after (shown_key last) k parts.1 in
        let ends = (within_parts low high (shown_key last) (first.each last has).0).1 in
        elim (first.all k some (within_is low high k parts.0 (on_below k (shown_key last) high not_later ends))) [
          | inl shown ↦ shown
          | inr later ↦ (last, has, sym (same_if k (shown_key last) (later.1 last has) not_later))
        ];
  }

  last_is : (d : Row) → 0 < length rows → IsStretch m low (after_row (slice_get rows (length rows - 1))) rows
  last_is d some =
      let i = length rows - 1 in
      let within : i < length rows = omega (arith, some) in
      let last = get_or rows i d in
      let has = has_at rows i last within (get_or_default rows i d last within) in
      subst (λ o. IsStretch m low (after_row o) rows) (sym (slice_get-get_or rows i d within)) (up_to last has (λ r h.
      let at = has_index rows r d h in
      subst (λ s. is_below (shown_key last) (shown_key s) ≡ false) at.2 (later_is rows first.in_order at.0 i d (omega (arith, at.1)) within)))

  up_to_last : IsStretch m low (after_row (slice_get rows (length rows - 1))) rows
  up_to_last = by_rows rows refl
    where
      by_rows : (l : List Row) → rows ≡ l → IsStretch m low (after_row (slice_get rows (length rows - 1))) rows
      by_rows [] e = subst (λ l. IsStretch m low (after_row (slice_get l (length l - 1))) l) (sym e) (record {
        in_order = λ k d below within. absurd (omega (arith, within));
        below = λ r h. absurd h;
        there = λ r h within. absurd h;
        all = λ k some within. absurd (true≢false (sym (within_parts low [] k within).1 ∙ not_below_none k));
      })
      by_rows (r ∷ l) e = last_is r (omega (arith, ap length e))

  pub stretch_is : IsStretch m low (end_of rows high most) rows
  stretch_is = by_count (nat_lt (length rows) most) refl
    where
      by_count : (b : Bool) → nat_lt (length rows) most ≡ b → IsStretch m low (if b then high else after_row (slice_get rows (length rows - 1))) rows
      by_count true e = whole (less_than (length rows) most e)
      by_count false e = up_to_last

-- ---- a change

pub not_second : (a b : Bool) → (a || b) ≡ false → b ≡ false
not_second true b h = absurd (true≢false h)
not_second false b h = h

module _ (m next : Content) (low high : List ℕ) (rows : List Row) (s : IsStretch m low high rows) where
  -- what is left of it from bytes on that are not before its begin, if nothing changes there
  pub narrower : (begin : List ℕ) → is_below begin low ≡ false → ((q : List ℕ) → in_bounds begin high q ≡ true → next q ≡ m q) → IsStretch next begin high rows
  narrower begin later same = record {
    in_order = s.in_order;
    below = s.below;
    there = λ r h within. same (shown_key r) within ∙ s.there r h (inside (shown_key r) within);
    all = λ k some within. s.all k (subst IsSome (same k within) some) (inside k within);
  }
    where
      inside : (q : List ℕ) → in_bounds begin high q ≡ true → in_bounds low high q ≡ true
      inside q within = let parts = within_parts begin high q within in within_is low high q (above_on q begin low parts.0 later) parts.1

  pub same_within : ((q : List ℕ) → in_bounds low high q ≡ true → next q ≡ m q) → IsStretch next low high rows
  same_within same = narrower low (not_itself low) same

  module _ (k : List ℕ) (but : AgreeBut m next k) where
    pub beyond : in_bounds low high k ≡ false → IsStretch next low high rows
    beyond outside = same_within (λ q within. but q (λ same. true≢false (sym within ∙ ap (in_bounds low high) same ∙ outside)))

    pub past_key : in_bounds low high k ≡ true → IsStretch next (after k) high rows
    past_key within =
        let parts = within_parts low high k within in
        narrower (after k) (below_not low (after k) (on_below low k (after k) parts.0 (below_after k)))
        (λ q inside. but q (λ same. true≢false (sym (below_after k) ∙ ap (λ p. is_below p (after k)) (sym same) ∙ (within_parts (after k) high q inside).0)))

  module _ (from to : List ℕ) (outside : AgreeOutside m next from to) where
    -- the range is after it or before it
    pub apart : (is_le (slice_cmp nat_cmp high from) || is_le (slice_cmp nat_cmp to low)) ≡ true → IsStretch next low high rows
    apart h =
        same_within
        (λ q within. outside q (by_side q (within_parts low high q within) (either (is_le (slice_cmp nat_cmp high from)) (is_le (slice_cmp nat_cmp to low)) h)))
      where
        either : (a b : Bool) → (a || b) ≡ true → (a ≡ true) ⊎ (b ≡ true)
        either true b h = inl refl
        either false b h = inr h

        by_side : (q : List ℕ) → (is_below q low ≡ false) × (is_below q high ≡ true)
            → (is_le (slice_cmp nat_cmp high from) ≡ true) ⊎ (is_le (slice_cmp nat_cmp to low) ≡ true) → in_bounds from to q ≡ false
        by_side q parts (inl later) = outside_below from to q (below_on q high from parts.1 (le_not high from later))
        by_side q parts (inr earlier) = outside_above from to q (above_on q low to parts.0 (le_not to low earlier))

    pub past_range : is_le (slice_cmp nat_cmp to low) ≡ false → IsStretch next to high rows
    past_range h =
        narrower to (below_not low to (le_false to low h))
        (λ q inside. outside q (outside_above from to q (within_parts to high q inside).0))
