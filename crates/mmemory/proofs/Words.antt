-- SPDX-License-Identifier: Apache-2.0
-- What is around the place of a search gives the words of the contracts.
use Rattle.mmemory.proofs.MemoryWords.{◌≡◌, ℤ, Bool, true, false, not, List, [], ◌∷◌, ◌++◌, filter, reverse, drop, get_or, refl, sym, ap, subst, ◌∙◌, Ordering}
use Rattle.mmemory.proofs.MemoryWords.{Less, Equal, Greater, is_lt, is_gt, is_eq, true≢false, AllByRecursion, Order, Row, value_cmp, entry_cmp, prefix_cmp}
use Rattle.mmemory.proofs.MemoryWords.{rowid, has_rowid, IsAscending, IsTable, IsIndex, from_key, up_to_key, put_row, insert_entry, without_rowid, remove_entry}
use Rattle.mmemory.proofs.MemoryWords.{ascending_weaker, all_weaker, filter_all, filter_none, AtMost, IsSortedTree, prefix_cmp_follows, not_true, Place, joined}
use Rattle.mmemory.proofs.MemoryWords.{before, after, Falls, Splits, Skips}
use Rattle.std.specs.Cmp.{IsTotalOrder}
use Rattle.std.proofs.lemmas.Cmp.{alike_right}
use Rattle.sqlite_value.specs.declared.value.Value.{Value}
use Rattle.sqlite_value.specs.declared.value.Value.TheVariants.{Int}
use Rattle.sqlite_value.proofs.KeyLemmas.{entry_cmp_total}
use Rattle.sqlite_value.proofs.OrderLemmas.{value_cmp_total}
use Rattle.mmemory.proofs.Nests.{whole}
use Rattle.mmemory.proofs.Splits.{up_right}

less : (o : Ordering) → is_lt o ≡ true → o ≡ Less
less Less h = refl
less Equal h = absurd (true≢false (sym h))
less Greater h = absurd (true≢false (sym h))

equal : (o : Ordering) → is_eq o ≡ true → o ≡ Equal
equal Less h = absurd (true≢false (sym h))
equal Equal h = refl
equal Greater h = absurd (true≢false (sym h))

greater : (o : Ordering) → is_lt o ≡ false → is_eq o ≡ false → o ≡ Greater
greater Less h k = absurd (true≢false h)
greater Equal h k = absurd (true≢false k)
greater Greater h k = refl

not_equal : (o : Ordering) → is_lt o ≡ true → is_eq o ≡ false
not_equal Less h = refl
not_equal Equal h = absurd (true≢false (sym h))
not_equal Greater h = refl

not_false : (b : Bool) → not b ≡ false → b ≡ true
not_false true h = refl
not_false false h = absurd (true≢false h)

not_is : (b : Bool) → not b ≡ true → b ≡ false
not_is true h = absurd (true≢false (sym h))
not_is false h = refl

-- ---- the tests pass up to some place

pub falls_below_key : (o : Order) (key : Row) (rows : List Row) → IsSortedTree o rows → Falls (λ e. is_lt (prefix_cmp o e key)) rows
falls_below_key o key rows up = ascending_weaker (AtMost o) _ (λ a b h. (prefix_cmp_follows o key a b h).0) rows up

pub falls_up_to_key : (o : Order) (key : Row) (rows : List Row) → IsSortedTree o rows → Falls (λ e. not (is_gt (prefix_cmp o e key))) rows
falls_up_to_key o key rows up =
    ascending_weaker (AtMost o) _ (λ a b h t. ap not (not_true _ (λ over. true≢false (sym t ∙ ap not ((prefix_cmp_follows o key a b h).1 over))))) rows up

pub falls_below_rowid : (id : Value) (rows : List Row) → IsTable rows → Falls (λ e. is_lt (value_cmp (rowid e) id)) rows
falls_below_rowid id rows up = ascending_weaker (λ a b. value_cmp (rowid a) (rowid b) ≡ Less) _ (λ a b h t. ap is_lt (value_cmp_total.trans (rowid a) (rowid b) id h (less _ t))) rows up

pub falls_below_entry : (o : Order) (entry : Row) (rows : List Row) → IsIndex o rows → Falls (λ e. is_lt (entry_cmp o e entry)) rows
falls_below_entry o entry rows up = ascending_weaker (λ a b. entry_cmp o a b ≡ Less) _ (λ a b h t. ap is_lt ((entry_cmp_total o).trans a b entry h (less _ t))) rows up

-- ---- a seek

pub from_key_at : (o : Order) (key : Row) (front back : List Row) → Splits (λ e. is_lt (prefix_cmp o e key)) front back → from_key o key (front ++ back) ≡ back
from_key_at o key [] [] h = refl
from_key_at o key [] (y ∷ back) h = rw (h.failed.0)
from_key_at o key (x ∷ front) back h = rw (h.passed.0) (from_key_at o key front back (record { passed = h.passed.1; failed = h.failed }))

pub up_to_key_at : (o : Order) (key : Row) (front back : List Row) → Splits (λ e. not (is_gt (prefix_cmp o e key))) front back → up_to_key o key (front ++ back) ≡ front
up_to_key_at o key [] [] h = refl
up_to_key_at o key [] (y ∷ back) h = rw (not_false _ h.failed.0)
up_to_key_at o key (x ∷ front) back h = rw (not_is _ h.passed.0) (ap (λ l. x ∷ l) (up_to_key_at o key front back (record { passed = h.passed.1; failed = h.failed })))

-- ---- the edits

pub put_row_at : (new : Row) (front back rest : List Row) (hit : Bool) → Splits (λ r. is_lt (value_cmp (rowid r) (rowid new))) front back
    → Skips (λ r. is_eq (value_cmp (rowid r) (rowid new))) back rest hit → put_row new (front ++ back) ≡ front ++ new ∷ rest
put_row_at new [] back rest true h s = rw (s.1, equal _ s.2)
put_row_at new [] [] rest false h s = rw (← s.0)
put_row_at new [] (y ∷ back) rest false h s = rw (← s.0, greater _ h.failed.0 (s.1 y back refl))
put_row_at new (x ∷ front) back rest hit h s = rw (less _ h.passed.0) (ap (λ l. x ∷ l) (put_row_at new front back rest hit (record { passed = h.passed.1; failed = h.failed }) s))

pub insert_entry_at : (o : Order) (new : Row) (front back rest : List Row) → Splits (λ e. is_lt (entry_cmp o e new)) front back
    → Skips (λ e. is_eq (entry_cmp o e new)) back rest false → insert_entry o new (front ++ back) ≡ front ++ new ∷ back
insert_entry_at o new [] [] rest h s = refl
insert_entry_at o new [] (y ∷ back) rest h s = rw (greater _ h.failed.0 (s.1 y back refl))
insert_entry_at o new (x ∷ front) back rest h s = rw (less _ h.passed.0) (ap (λ l. x ∷ l) (insert_entry_at o new front back rest (record { passed = h.passed.1; failed = h.failed }) s))

pub kept_entry_at : (o : Order) (new : Row) (front back rest : List Row) → Splits (λ e. is_lt (entry_cmp o e new)) front back
    → Skips (λ e. is_eq (entry_cmp o e new)) back rest true → insert_entry o new (front ++ back) ≡ front ++ back
kept_entry_at o new [] back rest h s = rw (s.1, equal _ s.2)
kept_entry_at o new (x ∷ front) back rest h s = rw (less _ h.passed.0) (ap (λ l. x ∷ l) (kept_entry_at o new front back rest (record { passed = h.passed.1; failed = h.failed }) s))

module _ {K : Type 0} {R : K → K → Ordering} (total : IsTotalOrder R) (h : Row → K) (id : K) where
  abbrev pub Rises : List Row → Type 0
  Rises = IsAscending (λ a b. R (h a) (h b) ≡ Less)

  none_later : (x : Row) (rows : List Row) → is_lt (R (h x) id) ≡ false → AllByRecursion (λ r. R (h x) (h r) ≡ Less) rows → AllByRecursion (λ r. is_eq (R (h r) id) ≡ false) rows
  none_later x rows k = all_weaker _ (λ r. is_eq (R (h r) id) ≡ false) (λ r below. go r below (R (h r) id) refl) rows
    where
      go : (r : Row) → R (h x) (h r) ≡ Less → (o : Ordering) → R (h r) id ≡ o → is_eq o ≡ false
      go r below Less e = refl
      go r below Greater e = refl
      go r below Equal e = absurd (true≢false (sym (ap is_lt (sym (alike_right total (h r) id (h x) e) ∙ below)) ∙ k))

  none_from : (back : List Row) → Rises back → AllByRecursion (λ r. is_lt (R (h r) id) ≡ false) back → ((found : Row) (more : List Row) → back ≡ found ∷ more → is_eq (R (h found) id) ≡ false)
      → AllByRecursion (λ r. is_eq (R (h r) id) ≡ false) back
  none_from [] up fails other = tt
  none_from (x ∷ back) up fails other = (other x back refl, none_later x back fails.0 up.0)

  pub filter_out : (front back rest : List Row) (hit : Bool) → Splits (λ r. is_lt (R (h r) id)) front back → Rises back
      → Skips (λ r. is_eq (R (h r) id)) back rest hit → filter (λ r. not (is_eq (R (h r) id))) (front ++ back) ≡ front ++ rest
  filter_out [] [] rest true k up s = absurd (cc)
  filter_out [] (y ∷ back) rest true k up s =
      let head : y ≡ s.0 = ap (λ l. get_or l 0 y) s.1 in
      let tail : back ≡ rest = ap (drop 1) s.1 in
      rw (head, s.2, ← tail) (filter_all _ back (all_weaker _ (λ r. not (is_eq (R (h r) id)) ≡ true) (λ r none. ap not none) back (none_later y back k.failed.0 up.0)))
  filter_out [] back rest false k up s =
      rw (← s.0) (filter_all _ back (all_weaker _ (λ r. not (is_eq (R (h r) id)) ≡ true) (λ r none. ap not none) back (none_from back up k.failed s.1)))
  filter_out (x ∷ front) back rest hit k up s =
      rw (not_equal _ k.passed.0) (ap (λ l. x ∷ l) (filter_out front back rest hit (record { passed = k.passed.1; failed = k.failed }) up s))

  -- one row that is what is sought
  pub filter_one : (front : List Row) (found : Row) (rest : List Row) → Splits (λ r. is_lt (R (h r) id)) front (found ∷ rest) → Rises (found ∷ rest)
      → is_eq (R (h found) id) ≡ true → filter (λ r. is_eq (R (h r) id)) (front ++ found ∷ rest) ≡ found ∷ []
  filter_one [] found rest k up is = rw is (ap (λ l. found ∷ l) (filter_none _ rest (none_later found rest k.failed.0 up.0)))
  filter_one (x ∷ front) found rest k up is = rw (not_equal _ k.passed.0) (filter_one front found rest (record { passed = k.passed.1; failed = k.failed }) up is)

  -- and none
  pub filter_no : (front back : List Row) → Splits (λ r. is_lt (R (h r) id)) front back → Rises back
      → ((found : Row) (more : List Row) → back ≡ found ∷ more → is_eq (R (h found) id) ≡ false) → filter (λ r. is_eq (R (h r) id)) (front ++ back) ≡ []
  filter_no [] back k up other = filter_none _ back (none_from back up k.failed other)
  filter_no (x ∷ front) back k up other = rw (not_equal _ k.passed.0) (filter_no front back (record { passed = k.passed.1; failed = k.failed }) up other)

-- ---- what a write makes of a tree

pub put_made : (new : Row) (id : Value) (rows made front back rest : List Row) (hit : Bool) → id ≡ rowid new → rows ≡ front ++ back → Splits (λ r. is_lt (value_cmp (rowid r) id)) front back
    → Skips (λ r. is_eq (value_cmp (rowid r) id)) back rest hit → made ≡ front ++ (new ∷ [] ++ rest) → made ≡ put_row new rows
put_made new id rows made front back rest hit is whole splits skips e =
    e ∙ sym (put_row_at new front back rest hit (rw is at splits) (rw is at skips)) ∙ ap (put_row new) (sym whole)

pub rowid_gone : (id : ℤ) (rows made front back rest : List Row) (hit : Bool) → IsTable rows → rows ≡ front ++ back → Splits (λ r. is_lt (value_cmp (rowid r) (Int id))) front back
    → Skips (λ r. is_eq (value_cmp (rowid r) (Int id))) back rest hit → made ≡ front ++ ([] ++ rest) → made ≡ without_rowid id rows
rowid_gone id rows made front back rest hit up whole splits skips e =
    e ∙ sym (filter_out value_cmp_total rowid (Int id) front back rest hit splits (up_right _ front back (subst IsTable whole up)) skips) ∙ ap (without_rowid id) (sym whole)

pub entry_gone : (o : Order) (entry : Row) (rows made front back rest : List Row) (hit : Bool) → IsIndex o rows → rows ≡ front ++ back → Splits (λ e. is_lt (entry_cmp o e entry)) front back
    → Skips (λ e. is_eq (entry_cmp o e entry)) back rest hit → made ≡ front ++ ([] ++ rest) → made ≡ remove_entry o entry rows
entry_gone o entry rows made front back rest hit up whole splits skips e =
    e ∙ sym (filter_out (entry_cmp_total o) (λ r. r) entry front back rest hit splits (up_right _ front back (subst (IsIndex o) whole up)) skips) ∙ ap (remove_entry o entry) (sym whole)

pub entry_put : (o : Order) (entry : Row) (rows made front back rest : List Row) → rows ≡ front ++ back → Splits (λ e. is_lt (entry_cmp o e entry)) front back
    → Skips (λ e. is_eq (entry_cmp o e entry)) back rest false → made ≡ front ++ (entry ∷ [] ++ rest) → made ≡ insert_entry o entry rows
entry_put o entry rows made front back rest whole splits skips e =
    e ∙ ap (λ l. front ++ entry ∷ l) (sym skips.0) ∙ sym (insert_entry_at o entry front back rest splits skips) ∙ ap (insert_entry o entry) (sym whole)

pub entry_there : (o : Order) (entry : Row) (rows front back rest : List Row) → rows ≡ front ++ back → Splits (λ e. is_lt (entry_cmp o e entry)) front back
    → Skips (λ e. is_eq (entry_cmp o e entry)) back rest true → rows ≡ insert_entry o entry rows
entry_there o entry rows front back rest whole splits skips = whole ∙ sym (kept_entry_at o entry front back rest splits skips) ∙ ap (insert_entry o entry) (sym whole)

-- ---- a row by its rowid

pub row_found : (id : ℤ) (rows front back rest : List Row) (found : Row) → IsTable rows → rows ≡ front ++ back → Splits (λ r. is_lt (value_cmp (rowid r) (Int id))) front back
    → back ≡ found ∷ rest → is_eq (value_cmp (rowid found) (Int id)) ≡ true → filter (has_rowid id) rows ≡ found ∷ []
row_found id rows front back rest found up whole splits is hit =
    let all : rows ≡ front ++ found ∷ rest = whole ∙ ap (λ l. front ++ l) is in
    ap (filter (has_rowid id)) all
    ∙ filter_one value_cmp_total rowid (Int id) front found rest (subst (Splits (λ r. is_lt (value_cmp (rowid r) (Int id))) front) is splits) (up_right _ front (found ∷ rest) (subst IsTable all up)) hit

pub row_missing : (id : ℤ) (rows front back : List Row) → IsTable rows → rows ≡ front ++ back → Splits (λ r. is_lt (value_cmp (rowid r) (Int id))) front back
    → ((found : Row) (more : List Row) → back ≡ found ∷ more → is_eq (value_cmp (rowid found) (Int id)) ≡ false) → filter (has_rowid id) rows ≡ []
row_missing id rows front back up whole splits other =
    ap (filter (has_rowid id)) whole ∙ filter_no value_cmp_total rowid (Int id) front back splits (up_right _ front back (subst IsTable whole up)) other

-- ---- what a cursor has left

pub sought_forward : (o : Order) (key : Row) (n : List (List Row)) (p : Place) → Splits (λ e. is_lt (prefix_cmp o e key)) (before n p) (after n p) → after n p ≡ from_key o key (joined n)
sought_forward o key n p splits = sym (ap (from_key o key) (whole n p) ∙ from_key_at o key (before n p) (after n p) splits)

pub sought_backward : (o : Order) (key : Row) (n : List (List Row)) (p : Place) → Splits (λ e. not (is_gt (prefix_cmp o e key))) (before n p) (after n p)
    → reverse (before n p) ≡ reverse (up_to_key o key (joined n))
sought_backward o key n p splits = ap reverse (sym (ap (up_to_key o key) (whole n p) ∙ up_to_key_at o key (before n p) (after n p) splits))
