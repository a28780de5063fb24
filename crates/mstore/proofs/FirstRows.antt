-- SPDX-License-Identifier: Apache-2.0
-- The first rows of a range, as a statement shows them that has a limit.
use Rattle.mstore.proofs.Words.{arith, ◌≡◌, ℕ, zero, suc, ◌+◌, ◌<◌, ◌≤◌, Bool, true, false, List, [], ◌∷◌, length, get_or, map, take, pos, refl, sym, ap, ap₂}
use Rattle.mstore.proofs.Words.{subst, ◌∙◌, inl, inr, cases_lt, sorted_far, ranks_by, Null, Blob, Int, Row, then-Equal}
use Rattle.mstore.proofs.Words.{value_cmp-Blob, col, IsAnswer, output, Output, overlay, State, reads_as, Has, has_at, Shown, schema, IsStore}
use Rattle.mstore.proofs.Words.{content, in_bounds, is_below, key_of, value_of, lookup, Ahead, sql, by_key, nat_list_cmp_total, Term, Key, Query, ◌⊎◌, Some}
use Rattle.std.proofs.Common.{IsSome, is_lt, IsSortedBy}
use Rattle.std.proofs.lemmas.List.{length-map, length-take, get_or-map, get_or-take, get_or_default}
use Rattle.mstore.specs.Stretch.{AreInOrder, AreOf, IsShownOrLater, ShowsFirst, blob_of, shown_key, shown_text}
use Rattle.mstore.proofs.Texts.{ahead_is, ahead_command, ahead_query, in_range, table_query}
use Rattle.mstore.proofs.Answer.{has_mapped, mapped_has, outputs_from, outputs_to}
use Rattle.mstore.proofs.Maps.{lookup_has}
use Rattle.mstore.proofs.RowTests.{in_range_is, key_column, value_column}
use Rattle.mstore.proofs.Steps.{end_key, has_index, sorts_by, there_is}

-- ---- the first of a list

taken_has : {X : Type 0} (n : ℕ) (xs : List X) (x : X) → Has (take n xs) x → Has xs x
taken_has zero xs x h = absurd h
taken_has (suc n) [] x h = absurd h
taken_has (suc n) (y ∷ xs) x (inl same) = inl same
taken_has (suc n) (y ∷ xs) x (inr later) = inr (taken_has n xs x later)

-- what is in a list is among its first n, or after all of them
taken_or_later : {X : Type 0} (n : ℕ) (xs : List X) (x : X) → Has xs x
    → Has (take n xs) x ⊎ ((n ≤ length (take n xs)) × (j : ℕ) × (n ≤ j) × (j < length xs) × (get_or xs j x ≡ x))
taken_or_later n xs x h =
    let at = has_index xs x x h in
    elim (cases_lt at.0 n) [
      | inl early ↦ inl (has_at (take n xs) at.0 x (omega (arith, length-take n xs, early, at.1)) (sym (get_or-take n xs at.0 x early ∙ at.2)))
      | inr late ↦ inr (omega (arith, length-take n xs, late, at.1), at.0, late, at.1, at.2)
    ]

taken_sorted : {X : Type 0} (lt : X → X → Bool) (n : ℕ) (xs : List X) → IsSortedBy lt xs → IsSortedBy lt (take n xs)
taken_sorted lt n xs sorted k d low high =
    let within : k + 1 < n = omega (arith, length-take n xs, high) in
    ap₂ lt (get_or-take n xs (k + 1) d within) (get_or-take n xs k d (omega (arith, within))) ∙ sorted k d low (omega (arith, length-take n xs, high))

mapped_sorted : {X Y : Type 0} (f : X → Y) (less : X → X → Bool) (lt : Y → Y → Bool) (xs : List X)
    → ((x y : X) → Has xs x → Has xs y → lt (f x) (f y) ≡ less x y) → IsSortedBy less xs → IsSortedBy lt (map f xs)
mapped_sorted f less lt [] same sorted k d low high = absurd (omega (arith, high))
mapped_sorted f less lt (x ∷ xs) same sorted k d low high =
    let all = x ∷ xs in
    let within : k + 1 < length all = omega (arith, length-map all f, high) in
    let before : k < length all = omega (arith, within) in
    let a = get_or all (k + 1) x in
    let b = get_or all k x in
    ap₂ lt (get_or-map f all (k + 1) x d within) (get_or-map f all k x d before)
    ∙ same a b (has_at all (k + 1) a within (get_or_default all (k + 1) x a within)) (has_at all k b before (get_or_default all k x b before))
    ∙ sorted k x low within

-- ---- the statement

module _ (old new : State) (store : IsStore old) (low high : List ℕ) (most : ℕ) where
  abbrev params : Row
  params = Blob low ∷ Blob high ∷ Int (pos most) ∷ []

  abbrev nodes : List Row
  nodes = old.now.trees 0

  abbrev shows : List Term
  shows = col 1 1 ∷ col 1 2 ∷ []

  abbrev order : List (Term × Key)
  order = Rattle.mstore.proofs.Texts.by_key false

  abbrev whole : Query
  whole = table_query 0 in_range shows order

  -- the range without its limit
  abbrev unlimited : (rows : List Row) → (a : IsAnswer ahead_query (overlay old.now.trees []) params rows)
      → IsAnswer whole (overlay old.now.trees []) params (map (λ (o : Output). o.1) a.ordered)
  unlimited rows a = record { staged = a.staged; grouped = a.grouped; kept = a.kept; distinct = a.distinct; ordered = a.ordered; same = a.same; sorted = a.sorted; shown = refl }

  -- what an output is sorted by and shows
  abbrev IsOf : Output → Type 0
  IsOf o =
      (r : Row) × Has nodes r × (in_bounds low high (key_of r) ≡ true) × (sorts_by o ≡ Blob (key_of r)) × (shown_key o.1 ≡ key_of r) × (shown_text o.1 ≡ value_of r)

  module _ (rows : List Row) (a : IsAnswer ahead_query (overlay old.now.trees []) params rows) where
    each_of : (o : Output) → Has a.ordered o → IsOf o
    each_of o h =
        let it = outputs_from in_range params shows order old.now.trees 0 refl _ (unlimited rows a) o h in
        let node = store.nodes.each it.0 it.1 in (
          it.0,
          it.1,
          sym (in_range_is low high it.0 node) ∙ it.2,
          ap sorts_by it.3 ∙ key_column it.0 node,
          ap (λ (x : Output). shown_key x.1) it.3 ∙ ap blob_of (key_column it.0 node),
          ap (λ (x : Output). shown_text x.1) it.3 ∙ ap blob_of (value_column it.0 node),
        )

    -- outputs are in the order of the keys that they show
    same_order : (x y : Output) → Has a.ordered x → Has a.ordered y
        → is_below (shown_key x.1) (shown_key y.1) ≡ is_lt (by_key (end_key false) (sorts_by x) (sorts_by y))
    same_order x y h i =
        let p = each_of x h in
        let q = each_of y i in
        ap₂ is_below p.4 q.4 ∙ ap is_lt (sym (value_cmp-Blob (key_of p.0) (key_of q.0))) ∙ ap₂ (λ u v. is_lt (by_key (end_key false) u v)) (sym p.3) (sym q.3)

    by_keys : IsSortedBy (λ (x y : Output). is_lt (by_key (end_key false) (sorts_by x) (sorts_by y))) a.ordered
    by_keys k d below within = ap is_lt (sym (then-Equal _)) ∙ a.sorted k d below within

    all_in_order : AreInOrder (map (λ (o : Output). o.1) a.ordered)
    all_in_order =
        mapped_sorted (λ (o : Output). o.1) (λ (x y : Output). is_lt (by_key (end_key false) (sorts_by x) (sorts_by y))) (λ (r s : Row). is_below (shown_key r) (shown_key s)) a.ordered same_order by_keys

    shown_is : rows ≡ take most (map (λ (o : Output). o.1) a.ordered)
    shown_is = a.shown

    from_ordered : (r : Row) → Has rows r → (o : Output) × Has a.ordered o × (r ≡ o.1)
    from_ordered r h = has_mapped (λ (o : Output). o.1) a.ordered r (taken_has most _ r (subst (λ l. Has l r) shown_is h))

    are_of : AreOf (content old) low high rows
    are_of r h =
        let out = from_ordered r h in
        let it = each_of out.0 out.1 in
        let key = ap shown_key out.2 ∙ it.4 in (
          ap (in_bounds low high) key ∙ it.2,
          ap (lookup nodes) key ∙ lookup_has nodes it.0 store.nodes it.1 ∙ ap Some (sym (ap shown_text out.2 ∙ it.5)),
        )

    later : (q : List ℕ) (j : ℕ) (x : Row) → shown_key x ≡ q → most ≤ j → j < length (map (λ (o : Output). o.1) a.ordered)
        → get_or (map (λ (o : Output). o.1) a.ordered) j x ≡ x
        → (r : Row) → Has rows r → is_below q (shown_key r) ≡ false
    later q j x key late within is r h =
        let all = map (λ (o : Output). o.1) a.ordered in
        let at = has_index (take most all) r x (subst (λ l. Has l r) shown_is h) in
        let early : at.0 < most = omega (arith, length-take most all, at.1) in
        let same : get_or all at.0 x ≡ r = sym (get_or-take most all at.0 x early) ∙ at.2 in
        ap₂ (λ u v. is_below u (shown_key v)) (sym key ∙ ap shown_key (sym is)) (sym same)
        ∙ sorted_far _ (ranks_by nat_list_cmp_total shown_key) all all_in_order at.0 j x (omega (arith, early, late)) within

    shown_or_later : (q : List ℕ) → IsSome (content old q) → in_bounds low high q ≡ true → IsShownOrLater most rows q
    shown_or_later q some within =
        let other = there_is nodes q some in
        let s = other.0 in
        let node = store.nodes.each s other.1 in
        let pass = in_range_is low high s node ∙ ap (in_bounds low high) other.2 ∙ within in
        let out = outputs_to in_range params shows order old.now.trees 0 refl _ (unlimited rows a) s other.1 pass in
        let x = (output whole (params ∷ s ∷ [])).1 in
        let key : shown_key x ≡ q = ap blob_of (key_column s node) ∙ other.2 in
        let among : Has (map (λ (o : Output). o.1) a.ordered) x = mapped_has (λ (o : Output). o.1) a.ordered _ out in
        elim (taken_or_later most (map (λ (o : Output). o.1) a.ordered) x among) [
          | inl early ↦ inl (x, subst (λ l. Has l x) (sym shown_is) early, key)
          | inr late ↦ inr (subst (λ l. most ≤ length l) (sym shown_is) late.0, later q late.1 x key late.2 late.3 late.4)
        ]

    first_rows : ShowsFirst (content old) low high most rows
    first_rows = record {
      in_order =
          subst AreInOrder (sym shown_is)
          (taken_sorted (λ (r s : Row). is_below (shown_key r) (shown_key s)) most (map (λ (o : Output). o.1) a.ordered) all_in_order);
      each = are_of;
      all = shown_or_later;
    }

  pub shows_first : (rows : List Row) → Shown (sql Ahead) params old new rows → ShowsFirst (content old) low high most rows
  shows_first rows h =
      let a = (reads_as (sql Ahead) params old new schema store.calm.schema_is ahead_command ahead_is.0 ahead_is.1 ahead_is.2 rows h).answer Null in
      first_rows rows a
