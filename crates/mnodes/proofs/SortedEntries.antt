-- SPDX-License-Identifier: Apache-2.0
-- What entries in order hold, and how their nodes and the bytes of their keys rise.
use Rattle.mnodes.proofs.Words.{◌≡◌, ℕ, zero, suc, ◌<◌, Bool, true, cond, ◌&&◌, None, List, [], ◌∷◌, map, length, slice_index_or, Option, Some, refl, sym, ap}
use Rattle.mnodes.proofs.Words.{subst, ◌∙◌, arith, Ordering, Less, Equal, Greater, and_parts, IsTotalOrder, slice_cmp, slice_partial_cmp, empty, entries, get}
use Rattle.mnodes.proofs.Words.{from_entries, retain_keys, entries-insert, get-from_entries, get-retain_keys, len-entries, len-empty, same_entries_map}
use Rattle.mnodes.proofs.Words.{same_map, put, where_key, is_sorted, below_all, by_order, is_sorted-put, is_sorted-where_key, find-where_key, is_some_and}
use Rattle.mnodes.proofs.Words.{ordering_reverse, ordering_then, partial_ordering_then, Globals, keys_of, key_bytes, IsStored, Node, node_cmp}
use Rattle.mnodes.proofs.Words.{significant_digits, key_order, node_cmp_total, node_cmp_exact, none_empty, Entry, entries_of, held, bytes_of, AreEntries, T}
use Rattle.mnodes.proofs.Words.{insert, nat_cmp, is_lt, Text}
use Rattle.std.specs.FinMap.Entries.{find}

abbrev pub order : Node → Node → Ordering
order = node_cmp significant_digits

pub total : IsTotalOrder order
total = node_cmp_total significant_digits

-- ---- tests

pub first : (a b : Bool) → (a && b) ≡ true → a ≡ true
first a b e = (and_parts a b e).0

pub second : (a b : Bool) → (a && b) ≡ true → b ≡ true
second a b e = (and_parts a b e).1

pub less : (o : Ordering) → is_lt o ≡ true → o ≡ Less
less o h = grind arith

to_T : (b : Bool) → b ≡ true → T b
to_T b e = subst T (sym e) tt

pub from_T : (b : Bool) → T b → b ≡ true
from_T b h = grind arith

-- ---- what a list in order holds

abbrev pub InOrder : List (Node × Text) → Type 0
InOrder es = is_sorted order es ≡ true

put_first : (e : Node × Text) (es : List (Node × Text)) → InOrder (e ∷ es) → put order e.0 e.1 es ≡ e ∷ es
put_first e [] h = refl
put_first e (f ∷ fs) h = ap (λ o. by_order o (e ∷ f ∷ fs) ((f.0, e.1) ∷ fs) (f ∷ put order e.0 e.1 fs)) (less _ (first _ _ (first _ _ h)))

none_of_length : (es : List (Node × Text)) → length es ≡ 0 → es ≡ []
none_of_length [] e = refl
none_of_length (x ∷ es) e = absurd (omega arith)

pub entries_from : (es : List (Node × Text)) → InOrder es → entries (from_entries {R = order} es) ≡ es
entries_from [] h = none_of_length _ (sym (len-entries (empty {X = Text} {R = order})) ∙ len-empty order Text)
entries_from (e ∷ es) h = entries-insert total (from_entries es) e.0 e.1 ∙ ap (put order e.0 e.1) (entries_from es (second _ _ h)) ∙ put_first e es h

held_is : (es : List Entry) → InOrder (entries_of es) → (g : Globals) → entries g ≡ entries_of es → held es ≡ g
held_is es h g e = same_entries_map (held es) g (entries_from (entries_of es) h ∙ sym e)

pub get_held : (es : List Entry) (n : Node) → get (held es) n ≡ find order n (entries_of es)
get_held es n = get-from_entries total (entries_of es) n

module _ (es new : List Entry) (h : InOrder (entries_of es)) where
  pub order_put : (n : Node) (t : Text) → entries_of new ≡ put order n t (entries_of es) → InOrder (entries_of new)
  order_put n t e = ap (is_sorted order) e ∙ from_T _ (is_sorted-put order total n t (entries_of es) (to_T _ h))

  pub held_put : (n : Node) (t : Text) → entries_of new ≡ put order n t (entries_of es) → held new ≡ insert (held es) n t
  held_put n t e = held_is new (order_put n t e) (insert (held es) n t) (entries-insert total (held es) n t ∙ ap (put order n t) (entries_from (entries_of es) h) ∙ sym e)

  pub order_where : (p : Node → Bool) → entries_of new ≡ where_key order p (entries_of es) → InOrder (entries_of new)
  order_where p e = ap (is_sorted order) e ∙ from_T _ (is_sorted-where_key order p (entries_of es) (to_T _ h))

  pub held_where : (p : Node → Bool) → entries_of new ≡ where_key order p (entries_of es) → held new ≡ retain_keys (held es) p
  held_where p e = same_map total (node_cmp_exact significant_digits) (held new) (retain_keys (held es) p) (λ q.
      let alike : (n : Node) → order q n ≡ Equal → p n ≡ p q = λ n t. ap p (sym (node_cmp_exact significant_digits q n t)) in
      get_held new q ∙ ap (find order q) e ∙ find-where_key order p q alike (entries_of es)
      ∙ sym (get-retain_keys (held es) p q alike ∙ ap (λ o. cond (p q) o None) (get_held es q)))

bytes_of_entries : (es : List Entry) → map (key_bytes significant_digits) (map (λ e. e.0) (entries_of es)) ≡ map bytes_of es
bytes_of_entries [] = refl
bytes_of_entries (e ∷ es) = ap (λ l. bytes_of e ∷ l) (bytes_of_entries es)

pub keys_held : (es : List Entry) → InOrder (entries_of es) → keys_of (held es) ≡ map bytes_of es
keys_held es h = ap (λ l. map (key_bytes significant_digits) (map (λ e. e.0) l)) (entries_from (entries_of es) h) ∙ bytes_of_entries es

-- ---- nodes rise, and the bytes of their keys

above_each : (n : Node) (es : List Entry) → below_all order n (entries_of es) ≡ true → (i : ℕ) (d : Entry) → i < length es → order n (slice_index_or es i d).key ≡ Less
above_each n [] h i d in_range = absurd (omega arith)
above_each n (e ∷ es) h zero d in_range = less _ (first _ _ h)
above_each n (e ∷ es) h (suc i) d in_range = above_each n es (second _ _ h) i d (omega arith)

pub nodes_rise : (es : List Entry) → InOrder (entries_of es) → (i j : ℕ) (d : Entry) → i < j → j < length es → order (slice_index_or es i d).key (slice_index_or es j d).key ≡ Less
nodes_rise [] h i j d lt in_range = absurd (omega arith)
nodes_rise (e ∷ es) h zero zero d lt in_range = absurd (omega arith)
nodes_rise (e ∷ es) h zero (suc j) d lt in_range = above_each e.key es (first _ _ h) j d (omega arith)
nodes_rise (e ∷ es) h (suc i) zero d lt in_range = absurd (omega arith)
nodes_rise (e ∷ es) h (suc i) (suc j) d lt in_range = nodes_rise es (second _ _ h) i j d (omega arith) (omega arith)

pub keys_order : (m n : Node) → IsStored m → IsStored n → slice_cmp nat_cmp (key_bytes significant_digits m) (key_bytes significant_digits n) ≡ order m n
keys_order m n stored_m stored_n = key_order significant_digits m n (none_empty m stored_m) (none_empty n stored_n)

pub keys_rise : (es : List Entry) → AreEntries es → (i j : ℕ) (d : Entry) → i < j → j < length es → slice_cmp nat_cmp (bytes_of (slice_index_or es i d)) (bytes_of (slice_index_or es j d)) ≡ Less
keys_rise es are i j d lt in_range = grind (arith, keys_order, nodes_rise)

-- what `<` and `<=` of bytes compare
then_some : (o r : Ordering) (q : Option Ordering) → q ≡ Some r → partial_ordering_then (Some o) q ≡ Some (ordering_then o r)
then_some o r q h = grind arith

pub bytes_compared : (xs ys : List ℕ) → slice_partial_cmp (λ x y. Some (nat_cmp x y)) xs ys ≡ Some (slice_cmp nat_cmp xs ys)
bytes_compared [] [] = refl
bytes_compared [] (y ∷ ys) = refl
bytes_compared (x ∷ xs) [] = refl
bytes_compared (x ∷ xs) (y ∷ ys) = then_some (nat_cmp x y) (slice_cmp nat_cmp xs ys) _ (bytes_compared xs ys)

pub compared : (test : Ordering → Bool) (xs ys : List ℕ) (r b : Bool) → r ≡ is_some_and test (slice_partial_cmp (λ x y. Some (nat_cmp x y)) xs ys) → r ≡ b → test (slice_cmp nat_cmp xs ys) ≡ b
compared test xs ys r b e f = sym (ap (is_some_and test) (bytes_compared xs ys)) ∙ sym e ∙ f

-- the other way round
pub greater : (m n : Node) → order m n ≡ Less → order n m ≡ Greater
greater m n e = total.antisymm n m ∙ ap ordering_reverse e
