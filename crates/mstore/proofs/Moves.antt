-- SPDX-License-Identifier: Apache-2.0
-- Rows that go from their keys by fifteen digits to those of this version.
use Rattle.mstore.proofs.Words.{arith, ◌≡◌, ◌≢◌, ◌⊎◌, ℕ, suc, true, List, [], ◌∷◌, Option, Some, None, sym, ap, subst, ◌∙◌, inl, inr, drop-cons, ◌+◌, ◌<◌}
use Rattle.mstore.proofs.Words.{length, drop, map, get_or, add-one, cases_Bool, slice_cmp, Blob, Row, Has, same_bytes, bytes_eq_refl, has_at, State, Node}
use Rattle.mstore.proofs.Words.{significant_digits, key_bytes, IsStored, node_of, keys_are_read, IsKeyBy, old_digits, Content, content, MovesKey, MovesRow}
use Rattle.mstore.proofs.Words.{IsMoving, ShowContent, true≢false}
use Rattle.std.proofs.Common.{is_eq, nat_cmp}
use Rattle.mstore.proofs.Answer.{mapped_has}

-- ---- keys of one node, or of two

same_or : (a b : List ℕ) → (a ≡ b) ⊎ (a ≢ b)
same_or a b = elim (cases_Bool (is_eq (slice_cmp nat_cmp a b))) [
  | inl same ↦ inl (same_bytes a b same)
  | inr other ↦ inr (λ e. true≢false (sym (subst (λ c. is_eq (slice_cmp nat_cmp a c) ≡ true) e (bytes_eq_refl a)) ∙ other))
]

-- keys by however many digits belong to one node
pub one_node : (few many : ℕ) (n m : Node) → key_bytes few n ≡ key_bytes many m → n ≡ m
one_node few many n m e = sym (keys_are_read few n) ∙ ap node_of e ∙ keys_are_read many m

none_some : (b : List ℕ) → ◌≡◌ {A = Option (List ℕ)} None (Some b) → ⊥
none_some b e = cc

-- ---- one step after another

pub nothing_moved : (c : Content) (shown : List Row) → ShowContent c shown → IsMoving c c shown
nothing_moved c shown all = record {
  forth = λ n v stored e. inr (e, (all.each (key_bytes old_digits n) v e).1);
  back = λ q v e.
      let it = all.each q v e in
      let node = it.0.0 in
      let key = it.0.1 in
      (node, key.0, subst (λ k. c k ≡ Some v) (sym key.1) e, inr (sym key.1, it.1));
}

module _ (first old new : Content) (m : Node) (k v : List ℕ) (left : List Row) (is : IsKeyBy old_digits m k) (here : first k ≡ Some v) (moves : MovesKey old new k (key_bytes significant_digits m) v)
    (was : IsMoving first old ((Blob k ∷ Blob v ∷ []) ∷ left)) where
  abbrev next_key : List ℕ
  next_key = key_bytes significant_digits m

  -- a node that is not the one that is moved
  apart_first : (n : Node) → key_bytes old_digits n ≢ k → key_bytes significant_digits n ≢ k
  apart_first n other e = other (ap (key_bytes old_digits) (one_node significant_digits old_digits n m (e ∙ sym is.1)) ∙ is.1)

  apart_next : (few : ℕ) (n : Node) → key_bytes old_digits n ≢ k → key_bytes few n ≢ next_key
  apart_next few n other e = other (ap (key_bytes old_digits) (one_node few significant_digits n m e) ∙ is.1)

  still_left : (l w : List ℕ) → l ≢ k → Has ((Blob k ∷ Blob v ∷ []) ∷ left) (Blob l ∷ Blob w ∷ []) → Has left (Blob l ∷ Blob w ∷ [])
  still_left l w h e = grind arith

  forth : (n : Node) (w : List ℕ) → IsStored n → first (key_bytes old_digits n) ≡ Some w
      → (new (key_bytes significant_digits n) ≡ Some w) ⊎ ((new (key_bytes old_digits n) ≡ Some w) × Has left (Blob (key_bytes old_digits n) ∷ Blob w ∷ []))
  forth n w stored e = by_node (same_or (key_bytes old_digits n) k)
    where
      moved : key_bytes old_digits n ≡ k → new (key_bytes significant_digits n) ≡ Some w
      moved same = elim (same_or k next_key) [
        | inl stays ↦ moves.same stays (key_bytes significant_digits n) ∙ elim (was.forth n w stored e) [
          | inl there ↦ there
          | inr later ↦ ap old (ap (key_bytes significant_digits) one ∙ sym stays ∙ sym same) ∙ later.0
        ]
        | inr goes ↦ ap new (ap (key_bytes significant_digits) one) ∙ moves.at goes ∙ sym here ∙ ap first (sym same) ∙ e
      ]
        where
          one : n ≡ m
          one = one_node old_digits old_digits n m (same ∙ sym is.1)

      by_node : (key_bytes old_digits n ≡ k) ⊎ (key_bytes old_digits n ≢ k)
          → (new (key_bytes significant_digits n) ≡ Some w) ⊎ ((new (key_bytes old_digits n) ≡ Some w) × Has left (Blob (key_bytes old_digits n) ∷ Blob w ∷ []))
      by_node (inl same) = inl (moved same)
      by_node (inr other) = elim (was.forth n w stored e) [
        | inl there ↦ inl (moves.others (key_bytes significant_digits n) (apart_first n other) (apart_next significant_digits n other) ∙ there)
        | inr later ↦ inr (moves.others (key_bytes old_digits n) other (apart_next old_digits n other) ∙ later.0, still_left (key_bytes old_digits n) w other later.1)
      ]

  abbrev From : List ℕ → List ℕ → Type 0
  From q w = (n : Node) × IsStored n × (first (key_bytes old_digits n) ≡ Some w) × ((q ≡ key_bytes significant_digits n) ⊎ ((q ≡ key_bytes old_digits n) × Has left (Blob q ∷ Blob w ∷ [])))

  the_moved : (q w : List ℕ) → q ≡ next_key → first k ≡ Some w → From q w
  the_moved q w at e = (m, is.0, ap first is.1 ∙ e, inl at)

  back : (q w : List ℕ) → new q ≡ Some w → From q w
  back q w e = elim (same_or q next_key) [ inl at ↦ to_next at | inr other ↦ elim (same_or q k) [ inl from ↦ gone from other | inr apart ↦ stays apart other ] ]
    where
      to_next : q ≡ next_key → From q w
      to_next at = elim (same_or k next_key) [
        | inl same ↦ as_before (was.back q w (sym (moves.same same q) ∙ e))
        | inr goes ↦ the_moved q w at (here ∙ sym (moves.at goes) ∙ ap new (sym at) ∙ e)
      ]
        where
          before : (n : Node) → first (key_bytes old_digits n) ≡ Some w → n ≡ m → From q w
          before n found one = the_moved q w at (ap first (sym is.1 ∙ ap (key_bytes old_digits) (sym one)) ∙ found)

          as_before : ((n : Node) × IsStored n × (first (key_bytes old_digits n) ≡ Some w) × ((q ≡ key_bytes significant_digits n) ⊎ ((q ≡ key_bytes old_digits n) × Has ((Blob k ∷ Blob v ∷ []) ∷ left) (Blob q ∷ Blob w ∷ [])))) → From q w
          as_before it = elim it.3 [
            | inl there ↦ before it.0 it.2 (one_node significant_digits significant_digits it.0 m (sym there ∙ at))
            | inr later ↦ before it.0 it.2 (one_node old_digits significant_digits it.0 m (sym later.0 ∙ at))
          ]

      gone : q ≡ k → q ≢ next_key → From q w
      gone from other = absurd (none_some w (sym (moves.gone (λ same. other (from ∙ same))) ∙ ap new (sym from) ∙ e))

      stays : q ≢ k → q ≢ next_key → From q w
      stays apart other =
          let it = was.back q w (sym (moves.others q apart other) ∙ e) in
          elim it.3 [
            | inl there ↦ (it.0, it.1, it.2, inl there)
            | inr later ↦ (it.0, it.1, it.2, inr (later.0, still_left q w apart later.1))
          ]

  pub one_moved : IsMoving first new left
  one_moved = record { forth = forth; back = back }

-- the row that comes next of those that are shown
pub next_moved : (first : Content) (old new : State) (rows : List Row) (i : ℕ) (row : Row) → ShowContent first (map (drop 1) rows) → i < length rows → row ≡ get_or rows i row → IsMoving first (content old) (map (drop 1) (drop i rows)) → MovesRow (drop 1 row) old new
    → IsMoving first (content new) (map (drop 1) (drop (i + 1) rows))
next_moved first old new rows i row all inside is was m =
    let here : first m.key ≡ Some m.value = all.only m.key m.value (subst (Has (map (drop 1) rows)) m.shows (mapped_has (drop 1) rows row (has_at rows i row inside is))) in
    let cut : drop i rows ≡ row ∷ drop (i + 1) rows = drop-cons rows i row inside ∙ ap (λ r. r ∷ drop (suc i) rows) (sym is) ∙ ap (λ n. row ∷ drop n rows) (sym (add-one i)) in
    let left : List Row = map (drop 1) (drop (i + 1) rows) in
    let before : IsMoving first (content old) ((Blob m.key ∷ Blob m.value ∷ []) ∷ left) =
    subst (λ r. IsMoving first (content old) (r ∷ left)) m.shows (subst (λ l. IsMoving first (content old) (map (drop 1) l)) cut was) in
    one_moved first (content old) (content new) m.node m.key m.value left m.is here m.moved before
