-- SPDX-License-Identifier: Apache-2.0
-- The entries of a node and of what is below it.
use Rattle.mnodes.proofs.Words.{◌≡◌, ℕ, zero, suc, ◌<◌, ◌≤◌, Bool, true, false, cond, not, List, [], ◌∷◌, ◌++◌, length, slice_index_or, take, drop, refl, sym}
use Rattle.mnodes.proofs.Words.{ap, ◌∙◌, inl, inr, arith, Less, append-nil, slice_cmp, bytes_decides, where_key, cases_lt, and_from, false_from_ne_true}
use Rattle.mnodes.proofs.Words.{All-append, All-drop, All-take, is_node_within, without_subtree, key_bytes, IsStored, IsBetween, IsWithin, Node}
use Rattle.mnodes.proofs.Words.{significant_digits, max_text, same_node, BoundsKeysOf, Entry, entries_of, held, bytes_of, AreEntries, IsPlaceOf, Text}
use Rattle.std.proofs.Common.{nat_cmp, is_lt}
use Rattle.std.proofs.lemmas.Slice.Eq.{starts_is}
use Rattle.mspec.specs.Trees.{is_within}
use Rattle.mnodes.proofs.EntryRanges.{not_both, less_than, from_on, not_from}
use Rattle.mnodes.proofs.SortedEntries.{order, less, first, second, order_where, held_where}

-- ---- what the test of nodes says

module _ (n m : Node) where
  below : (rest : List Text) → n.account ≡ m.account → n.name ≡ m.name → m.subscripts ≡ n.subscripts ++ rest → IsWithin n m
  below [] account name e = inl (same_node n m account name (sym (append-nil n.subscripts) ∙ sym e))
  below (s ∷ more) account name e = inr (record { account = account; name = name; longer = (s, more, e) })

  behind : (is_within n.subscripts m.subscripts ≡ true → m.subscripts ≡ n.subscripts ++ drop (length n.subscripts) m.subscripts)
      × ((rest : List Text) → m.subscripts ≡ n.subscripts ++ rest → is_within n.subscripts m.subscripts ≡ true)
  behind = starts_is bytes_decides m.subscripts n.subscripts (is_within n.subscripts m.subscripts) refl

  pub told_within : is_node_within n m ≡ true → IsWithin n m
  told_within e =
      let names = second _ _ e in
      below (drop (length n.subscripts) m.subscripts) ((bytes_decides n.account m.account).0 (first _ _ e)) ((bytes_decides n.name m.name).0 (first _ _ names)) (behind.0 (second _ _ names))

  within_parts : (rest : List Text) → n.account ≡ m.account → n.name ≡ m.name → m.subscripts ≡ n.subscripts ++ rest → is_node_within n m ≡ true
  within_parts rest account name e = and_from _ _ ((bytes_decides n.account m.account).1 account) (and_from _ _ ((bytes_decides n.name m.name).1 name) (behind.1 rest e))

  pub within_told : IsWithin n m → is_node_within n m ≡ true
  within_told (inl same) = within_parts [] (ap (λ x. x.account) same) (ap (λ x. x.name) same) (ap (λ x. x.subscripts) (sym same) ∙ sym (append-nil n.subscripts))
  within_told (inr above) = within_parts (above.longer.0 ∷ above.longer.1) above.account above.name above.longer.2

-- ---- the entries that a range of places leaves

module _ (p : Node → Bool) where
  record Leaves (es : List Entry) (i j : ℕ) : Type 0 where
    before : (k : ℕ) (d : Entry) → k < length es → k < i → p (slice_index_or es k d).key ≡ true
    inside : (k : ℕ) (d : Entry) → k < length es → i ≤ k → k < j → p (slice_index_or es k d).key ≡ false
    after : (k : ℕ) (d : Entry) → k < length es → j ≤ k → p (slice_index_or es k d).key ≡ true

  left : (es : List Entry) (i j : ℕ) → i ≤ j → Leaves es i j → entries_of (take i es ++ drop j es) ≡ where_key order p (entries_of es)
  left [] zero zero le leaves = refl
  left [] zero (suc j) le leaves = refl
  left [] (suc i) zero le leaves = refl
  left [] (suc i) (suc j) le leaves = refl
  left (e ∷ es) zero zero le leaves =
      ap (λ l. (e.key, e.text) ∷ l) (left es zero zero le (record {
        before = λ k d in_range lt. absurd (omega arith);
        inside = λ k d in_range from lt. absurd (omega arith);
        after = λ k d in_range from. leaves.after (suc k) d (omega arith) (omega arith);
      }))
      ∙ sym (ap (λ b. cond b ((e.key, e.text) ∷ where_key order p (entries_of es)) (where_key order p (entries_of es))) (leaves.after 0 e (omega arith) (omega arith)))
  left (e ∷ es) zero (suc j) le leaves =
      left es zero j (omega arith) (record {
        before = λ k d in_range lt. absurd (omega arith);
        inside = λ k d in_range from lt. leaves.inside (suc k) d (omega arith) (omega arith) (omega arith);
        after = λ k d in_range from. leaves.after (suc k) d (omega arith) (omega arith);
      })
      ∙ sym (ap (λ b. cond b ((e.key, e.text) ∷ where_key order p (entries_of es)) (where_key order p (entries_of es))) (leaves.inside 0 e (omega arith) (omega arith) (omega arith)))
  left (e ∷ es) (suc i) zero le leaves = absurd (omega (arith, le))
  left (e ∷ es) (suc i) (suc j) le leaves =
      ap (λ l. (e.key, e.text) ∷ l) (left es i j (omega (arith, le)) (record {
        before = λ k d in_range lt. leaves.before (suc k) d (omega arith) (omega arith);
        inside = λ k d in_range from lt. leaves.inside (suc k) d (omega arith) (omega arith) (omega arith);
        after = λ k d in_range from. leaves.after (suc k) d (omega arith) (omega arith);
      }))
      ∙ sym (ap (λ b. cond b ((e.key, e.text) ∷ where_key order p (entries_of es)) (where_key order p (entries_of es))) (leaves.before 0 e (omega arith) (omega arith)))

-- ---- a subtree is a range of places

module _ (es : List Entry) (are : AreEntries es) (n : Node) (stored : IsStored n) (end : List ℕ) (bounds : BoundsKeysOf (IsWithin n) (key_bytes significant_digits n) end)
    (i j : ℕ) (from : IsPlaceOf es (key_bytes significant_digits n) i) (to : IsPlaceOf es end j) where
  key_before_end : slice_cmp nat_cmp (key_bytes significant_digits n) end ≡ Less
  key_before_end = ((bounds n stored).1 (inl refl)).below

  some_entry : Entry
  some_entry = record { key = n; text = [] }

  bound_by : j < i → i ≤ length es → ⊥
  bound_by lt le =
      let e = slice_index_or es j some_entry in
      not_both _ (less_than (bytes_of e) (key_bytes significant_digits n) end (less _ (from.0 j some_entry (omega arith) lt)) (ap is_lt key_before_end)) (to.1 j some_entry (omega arith) (omega (arith, lt, le)))

  pub in_turn : i ≤ length es → i ≤ j
  in_turn le = elim (cases_lt j i) [
    | inl lt ↦ absurd (bound_by lt le)
    | inr ge ↦ ge
  ]

  outside : (k : ℕ) (d : Entry) → k < length es → (IsBetween (key_bytes significant_digits n) end (bytes_of (slice_index_or es k d)) → ⊥) → not (is_node_within n (slice_index_or es k d).key) ≡ true
  outside k d in_range out =
      let m = (slice_index_or es k d).key in
      ap not (false_from_ne_true (is_node_within n m) (λ t. out ((bounds m (are.stored k d in_range)).1 (told_within n m t))))

  leaves : Leaves (λ m. not (is_node_within n m)) es i j
  leaves = record {
    before = λ k d in_range lt. outside k d in_range (λ b. not_both _ b.from (not_from (key_bytes significant_digits n) (bytes_of (slice_index_or es k d)) (from.0 k d (omega arith) lt)));
    inside = λ k d in_range ge lt.
        let m = (slice_index_or es k d).key in
        ap not (within_told n m ((bounds m (are.stored k d in_range)).0 (record {
          from = from_on (key_bytes significant_digits n) (bytes_of (slice_index_or es k d)) (from.1 k d ge in_range);
          below = less _ (to.0 k d (omega arith) lt);
        })));
    after = λ k d in_range ge. outside k d in_range (λ b. not_both _ (ap is_lt b.below) (to.1 k d ge in_range));
  }

  module _ (le : i ≤ length es) where
    pub are_left : AreEntries (take i es ++ drop j es)
    are_left =
        let is = λ (e : Entry). IsStored e.key in
        let fits = λ (e : Entry). length e.text ≤ max_text in
        record {
          sorted = order_where es (take i es ++ drop j es) are.sorted _ (left _ es i j (in_turn le) leaves);
          stored = All-append is (take i es) (drop j es) (All-take is i es are.stored) (All-drop is j es are.stored);
          short = All-append fits (take i es) (drop j es) (All-take fits i es are.short) (All-drop fits j es are.short);
        }

    pub held_left : held (take i es ++ drop j es) ≡ without_subtree (held es) n
    held_left = held_where es (take i es ++ drop j es) are.sorted _ (left _ es i j (in_turn le) leaves)
