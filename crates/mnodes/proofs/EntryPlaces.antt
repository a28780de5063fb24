-- SPDX-License-Identifier: Apache-2.0
-- Where a search ends among entries in order, and what an edit there does.
use Rattle.mnodes.proofs.Words.{◌≡◌, ℕ, zero, suc, ◌+◌, ◌≤◌, Bool, true, false, cond, List, [], ◌∷◌, length, slice_index_or, slice_set, take, drop}
use Rattle.mnodes.proofs.Words.{if◌then◌else◌, All, Some, None, Result, Ok, Err, IfOk, IfErr, refl, sym, ap, subst, ◌∙◌, inl, inr, arith, Less, Greater}
use Rattle.mnodes.proofs.Words.{slice_cmp, nat_list_cmp_total, put, by_order, ordering_reverse, cases_lt, tied_itself, All-append, All-cons, All-drop, All-set}
use Rattle.mnodes.proofs.Words.{All-take, searchable_from_sorted, IsStored, Node, significant_digits, max_text, node_cmp_exact, Entry, entries_of, held}
use Rattle.mnodes.proofs.Words.{bytes_of, is_before, AreEntries, IsAt, IsGapFor, IsPlaceOf, Text}
use Rattle.std.proofs.Common.{insert}
use Rattle.std.specs.FinMap as finite
use Rattle.std.specs.FinMap.Entries.{find}
use Rattle.std.specs.List.Sorted.{IsSearchInRange, IsBinarySearchResult, IsPartitionedBy, IsSortedBy}
use Rattle.std.specs.Ordering.{nat_cmp, is_lt, is_eq}
use Rattle.mnodes.proofs.SortedEntries.{order, total, less, second, InOrder, nodes_rise, keys_rise, greater, order_put, held_put}

-- ---- a binary search by nodes

falling : (m n : Node) → order m n ≡ Less → is_lt (order n m) ≡ false
falling m n e = ap is_lt (greater m n e)

in_order : (es : List Entry) → InOrder (entries_of es) → IsSortedBy (λ a b. is_lt (order a.key b.key)) es
in_order es h k d low high = falling (slice_index_or es k d).key (slice_index_or es (k + 1) d).key (nodes_rise es h k (k + 1) d (omega arith) high)

module _ (es : List Entry) (are : AreEntries es) (n : Node) where
  pub found_at : (r : Result ℕ ℕ) → IsSearchInRange r (length es) → IsBinarySearchResult (λ e. order e.key n) es r → IfOk r (IsAt es n)
  found_at (Ok i) in_range is = record { in_range = in_range; of_node = λ d. node_cmp_exact significant_digits _ _ (is d) }
  found_at (Err i) in_range is = tt

  pub gap_at : (r : Result ℕ ℕ) → IsBinarySearchResult (λ e. order e.key n) es r → IfErr r (IsGapFor es n)
  gap_at (Ok i) is = tt
  gap_at (Err i) is = is (searchable_from_sorted total (λ e. e.key) es n (in_order es are.sorted))

-- ---- a binary search by bytes

before_earlier : (a b c : List ℕ) → slice_cmp nat_cmp a b ≡ Less → is_lt (slice_cmp nat_cmp b c) ≡ true → is_lt (slice_cmp nat_cmp a c) ≡ true
before_earlier a b c e f = ap is_lt (nat_list_cmp_total.trans a b c e (less _ f))

pub before_some : (es : List Entry) → AreEntries es → (bytes : List ℕ) → IsPartitionedBy (is_before bytes) es
before_some es are bytes i j d le in_range before = elim (cases_lt i j) [
  | inl lt ↦ before_earlier (bytes_of (slice_index_or es i d)) (bytes_of (slice_index_or es j d)) bytes (keys_rise es are i j d lt in_range) before
  | inr ge ↦ ap (λ k. is_before bytes (slice_index_or es k d)) (omega arith) ∙ before
]

-- a place among the same entries, by the same bytes
pub same_place : (es same : List Entry) (bytes like : List ℕ) (i : ℕ) → same ≡ es → like ≡ bytes → IsPlaceOf same like i → IsPlaceOf es bytes i
same_place es same bytes like i e f place = subst (λ l. IsPlaceOf l bytes i) e (subst (λ b. IsPlaceOf same b i) f place)

-- ---- what is found

apart : (m n : Node) → order m n ≡ Less → is_eq (order n m) ≡ false
apart m n e = ap is_eq (greater m n e)

pub find_at : (es : List Entry) → InOrder (entries_of es) → (n : Node) (i : ℕ) → IsAt es n i → (d : Entry) → find order n (entries_of es) ≡ Some (slice_index_or es i d).text
find_at [] h n i at d = absurd (omega (arith, at.in_range))
find_at (e ∷ es) h n zero at d = grind (arith, at.of_node d, tied_itself total n)
find_at (e ∷ es) h n (suc i) at d =
    let rises = nodes_rise (e ∷ es) h 0 (suc i) d (omega arith) at.in_range in
    ap (λ b. cond b (Some e.text) (find order n (entries_of es))) (apart e.key n (ap (order e.key) (sym (at.of_node d)) ∙ rises))
    ∙ find_at es (second _ _ h) n i (record { in_range = omega (arith, at.in_range); of_node = at.of_node }) d

not_less : (m n : Node) → order m n ≡ Greater → is_eq (order n m) ≡ false
not_less m n e = ap is_eq (total.antisymm n m ∙ ap ordering_reverse e)

pub find_none : (es : List Entry) (n : Node) → All (λ e. is_eq (order n e.key) ≡ false) es → find order n (entries_of es) ≡ None
find_none [] n all = refl
find_none (e ∷ es) n all = ap (λ b. cond b (Some e.text) (find order n (entries_of es))) (all 0 e (omega arith)) ∙ find_none es n (λ k d in_range. all (suc k) d (omega arith))

pub find_in_gap : (es : List Entry) (n : Node) (i : ℕ) → IsGapFor es n i → find order n (entries_of es) ≡ None
find_in_gap es n i gap = find_none es n (λ k d in_range. elim (cases_lt k i) [
  | inl lt ↦ apart _ n (gap.0 k d (omega arith) lt)
  | inr ge ↦ not_less _ n (gap.1 k d ge in_range)
])

-- ---- a text in place of another

pub put_at : (es : List Entry) → InOrder (entries_of es) → (n : Node) (t : Text) (i : ℕ) → IsAt es n i → (x : Entry) → x.key ≡ n → x.text ≡ t → entries_of (slice_set es i x) ≡ put order n t (entries_of es)
put_at [] h n t i at x key text = absurd (omega (arith, at.in_range))
put_at (e ∷ es) h n t zero at x key text =
    let same = at.of_node x in
    ap (λ p. p ∷ entries_of es) (λ j. ((key ∙ sym same) j, text j))
    ∙ sym (ap (λ o. by_order o ((n, t) ∷ entries_of (e ∷ es)) ((e.key, t) ∷ entries_of es) ((e.key, e.text) ∷ put order n t (entries_of es))) (ap (order n) same ∙ tied_itself total n))
put_at (e ∷ es) h n t (suc i) at x key text =
    let rises = nodes_rise (e ∷ es) h 0 (suc i) x (omega arith) at.in_range in
    ap (λ l. (e.key, e.text) ∷ l) (put_at es (second _ _ h) n t i (record { in_range = omega (arith, at.in_range); of_node = at.of_node }) x key text)
    ∙ sym (ap (λ o. by_order o ((n, t) ∷ entries_of (e ∷ es)) ((e.key, t) ∷ entries_of es) ((e.key, e.text) ∷ put order n t (entries_of es))) (greater e.key n (ap (order e.key) (sym (at.of_node x)) ∙ rises)))

-- ---- a new entry

pub put_in_gap : (es : List Entry) (n : Node) (t : Text) (i : ℕ) → i ≤ length es → IsGapFor es n i → (x : Entry) → x.key ≡ n → x.text ≡ t → entries_of (insert es i x) ≡ put order n t (entries_of es)
put_in_gap [] n t zero le gap x key text = λ j. (key j, text j) ∷ []
put_in_gap [] n t (suc i) le gap x key text = absurd (omega (arith, le))
put_in_gap (e ∷ es) n t zero le gap x key text = grind (arith, total.antisymm n e.key, gap.1 0 e (omega arith) (omega arith))
put_in_gap (e ∷ es) n t (suc i) le gap x key text =
    ap (λ l. (e.key, e.text) ∷ l) (put_in_gap es n t i (omega (arith, le)) (λ k d low high. gap.0 (suc k) d (omega arith) (omega arith), λ k d low high. gap.1 (suc k) d (omega arith) (omega arith)) x key text)
    ∙ sym (ap (λ o. by_order o ((n, t) ∷ entries_of (e ∷ es)) ((e.key, t) ∷ entries_of es) ((e.key, e.text) ∷ put order n t (entries_of es))) (greater e.key n (gap.0 0 e (omega arith) (omega arith))))

-- ---- the entries after it

-- an insert that had space
pub had_room : (b : Bool) (xs ys : List Entry) → b ≡ true → (if b then xs else ys) ≡ xs
had_room b xs ys e = ap (λ r. if r then xs else ys) e

module _ (es : List Entry) (are : AreEntries es) (n : Node) (t : Text) (i : ℕ) (x : Entry) (key : x.key ≡ n) (text : x.text ≡ t) where
  module _ (at : IsAt es n i) where
    put_over : entries_of (slice_set es i x) ≡ put order n t (entries_of es)
    put_over = put_at es are.sorted n t i at x key text

    pub are_set : length t ≤ max_text → AreEntries (slice_set es i x)
    are_set short = record {
      sorted = order_put es (slice_set es i x) are.sorted n t put_over;
      stored = All-set (λ e. IsStored e.key) es i x (subst IsStored (at.of_node x ∙ sym key) (are.stored i x at.in_range)) are.stored;
      short = All-set (λ e. length e.text ≤ max_text) es i x (subst (λ s. length s ≤ max_text) (sym text) short) are.short;
    }

    pub held_set : held (slice_set es i x) ≡ finite.insert (held es) n t
    held_set = held_put es (slice_set es i x) are.sorted n t put_over

  module _ (le : i ≤ length es) (gap : IsGapFor es n i) where
    put_between : entries_of (insert es i x) ≡ put order n t (entries_of es)
    put_between = put_in_gap es n t i le gap x key text

    pub are_inserted : IsStored n → length t ≤ max_text → AreEntries (insert es i x)
    are_inserted stored short = record {
      sorted = order_put es (insert es i x) are.sorted n t put_between;
      stored =
          let is = λ (e : Entry). IsStored e.key in
          All-append is (take i es) (x ∷ drop i es) (All-take is i es are.stored) (All-cons is x (drop i es) (subst IsStored (sym key) stored) (All-drop is i es are.stored));
      short =
          let is = λ (e : Entry). length e.text ≤ max_text in
          All-append is (take i es) (x ∷ drop i es) (All-take is i es are.short) (All-cons is x (drop i es) (subst (λ s. length s ≤ max_text) (sym text) short) (All-drop is i es are.short));
    }

    pub held_inserted : held (insert es i x) ≡ finite.insert (held es) n t
    held_inserted = held_put es (insert es i x) are.sorted n t put_between
