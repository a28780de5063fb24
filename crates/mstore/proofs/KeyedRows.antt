-- SPDX-License-Identifier: Apache-2.0
-- What calls do to rows by their keys, they do to the globals that the rows hold.
use Rattle.mstore.proofs.Words.{ℕ, ◌≡◌, ◌≢◌, ◌<◌, ◌⊎◌, inl, inr, Bool, true, false, cond, not, Some, None, List, [], ◌∷◌, map, length, refl, sym, ◌∙◌, ap}
use Rattle.mstore.proofs.Words.{subst, arith, and_parts, and_from, eq_by_cmp, IsTotalOrder, eq_by_cmp_equiv, Equal-is, both_ways, slice_cmp, get}
use Rattle.mstore.proofs.Words.{get-from_entries, get-insert, get-retain_keys, same_map, All-head, All-tail, All-cons, All-nil, Node, significant_digits}
use Rattle.mstore.proofs.Words.{node_cmp, key_bytes, subtree_end, NoneEmpty, node_of, Globals, is_node_within, without_subtree, node_cmp_total, node_cmp_exact}
use Rattle.mstore.proofs.Words.{key_order, keys_are_injective, subtrees_are_ranges, keys_are_read, IsKey, none_empty, PutsAt, RemovesWithin, in_bounds}
use Rattle.mstore.proofs.Words.{lookup_by, globals_by, AreKeyed, insert, Text}
use Rattle.mnodes.proofs.SortedEntries.{less}
use Rattle.mnodes.proofs.Subtrees.{told_within, within_told}
use Rattle.std.specs.Ordering.{nat_cmp, is_eq, is_lt, is_le}
use Rattle.std.specs.FinMap.Entries as Entries

abbrev pub key : Node → List ℕ
key = key_bytes significant_digits

o : IsTotalOrder (node_cmp significant_digits)
o = node_cmp_total significant_digits

-- ---- nodes whose subscripts are none of them empty

none_empty_or : (xs : List Text) → NoneEmpty xs ⊎ (NoneEmpty xs → ⊥)
none_empty_or [] = inl (All-nil (λ s. 0 < length s))
none_empty_or ([] ∷ xs) = inr (λ all. let some = All-head (λ s. 0 < length s) [] xs all in absurd (omega arith))
none_empty_or ((c ∷ s) ∷ xs) = rest (none_empty_or xs)
  where
    rest : NoneEmpty xs ⊎ (NoneEmpty xs → ⊥) → NoneEmpty ((c ∷ s) ∷ xs) ⊎ (NoneEmpty ((c ∷ s) ∷ xs) → ⊥)
    rest (inl all) = inl (All-cons (λ s. 0 < length s) (c ∷ s) xs (omega arith) all)
    rest (inr some) = inr (λ all. some (All-tail (λ s. 0 < length s) (c ∷ s) xs all))

-- the node of a key that is one
pub node_at : (k : List ℕ) (is : IsKey k) → node_of k ≡ is.0
node_at k is = ap node_of (sym is.1.1) ∙ keys_are_read significant_digits is.0

pub same_of : (m n : Node) → eq_by_cmp (node_cmp significant_digits) m n ≡ true → m ≡ n
same_of m n e = node_cmp_exact significant_digits m n ((Equal-is (node_cmp significant_digits m n)).0 e)

-- keys are equal exactly if their nodes are
same_keys : (k : List ℕ) (is : IsKey k) (n : Node) → NoneEmpty n.subscripts → eq_by_cmp (node_cmp significant_digits) n (node_of k) ≡ is_eq (slice_cmp nat_cmp k (key n))
same_keys k is n some =
    ap (eq_by_cmp (node_cmp significant_digits) n) (node_at k is)
    ∙ (eq_by_cmp_equiv o).symm n is.0
    ∙ ap is_eq (sym (key_order significant_digits is.0 n (none_empty is.0 is.1.0) some))
    ∙ ap (λ b. is_eq (slice_cmp nat_cmp b (key n))) is.1.1

-- ---- what is within a node

-- the range of a node's keys is that of the nodes within it
range_is : (n m : Node) → NoneEmpty n.subscripts → NoneEmpty m.subscripts → in_bounds (key n) (subtree_end (key n)) (key m) ≡ is_node_within n m
range_is n m some_n some_m =
    let ranges = subtrees_are_ranges significant_digits n m some_n some_m in
    both_ways (in_bounds (key n) (subtree_end (key n)) (key m)) (is_node_within n m)
    (λ e.
    let both = and_parts (is_le (slice_cmp nat_cmp (key n) (key m))) (is_lt (slice_cmp nat_cmp (key m) (subtree_end (key n)))) e in
    within_told n m (ranges.0 (record { from = both.0; below = less (slice_cmp nat_cmp (key m) (subtree_end (key n))) both.1 })))
    (λ e.
    let between = ranges.1 (told_within n m e) in
    and_from (is_le (slice_cmp nat_cmp (key n) (key m))) (is_lt (slice_cmp nat_cmp (key m) (subtree_end (key n)))) between.from (ap is_lt between.below))

-- ---- a node's text is the value at its key

module _ {A : Type 0} (key_of value_of : A → List ℕ) where
  abbrev entry : A → Node × Text
  entry r = (node_of (key_of r), value_of r)

  found : (rows : List A) → AreKeyed key_of rows → (n : Node) → NoneEmpty n.subscripts → Entries.find (node_cmp significant_digits) n (map entry rows) ≡ lookup_by key_of value_of rows (key n)
  found [] keyed n some = refl
  found (r ∷ rows) keyed n some = grind (arith, found rows keyed.1 n some, eq_by_cmp, is_eq, same_keys)

  -- a node with an empty subscript has none
  missed : (rows : List A) → AreKeyed key_of rows → (n : Node) → (NoneEmpty n.subscripts → ⊥) → Entries.find (node_cmp significant_digits) n (map entry rows) ≡ None
  missed [] keyed n empty = refl
  missed (r ∷ rows) keyed n empty = here (eq_by_cmp (node_cmp significant_digits) n (node_of (key_of r))) refl (missed rows keyed.1 n empty)
    where
      some : n ≡ node_of (key_of r) → NoneEmpty n.subscripts
      some same = subst (λ m. NoneEmpty m.subscripts) (sym (same ∙ node_at (key_of r) keyed.0)) (none_empty keyed.0.0 keyed.0.1.0)

      here : (b : Bool) → eq_by_cmp (node_cmp significant_digits) n (node_of (key_of r)) ≡ b → Entries.find (node_cmp significant_digits) n (map entry rows) ≡ None
          → cond b (Some (value_of r)) (Entries.find (node_cmp significant_digits) n (map entry rows)) ≡ None
      here true e rest = absurd (empty (some (same_of n (node_of (key_of r)) e)))
      here false e rest = rest

  pub gets : (rows : List A) → AreKeyed key_of rows → (n : Node) → NoneEmpty n.subscripts → get (globals_by key_of value_of rows) n ≡ lookup_by key_of value_of rows (key n)
  gets rows keyed n some = get-from_entries o (map entry rows) n ∙ found rows keyed n some

  gets_none : (rows : List A) → AreKeyed key_of rows → (n : Node) → (NoneEmpty n.subscripts → ⊥) → get (globals_by key_of value_of rows) n ≡ None
  gets_none rows keyed n empty = get-from_entries o (map entry rows) n ∙ missed rows keyed n empty

  -- globals that say the same at each node are those of the rows
  are_globals : (rows : List A) → AreKeyed key_of rows → (g : Globals) → ((n : Node) → NoneEmpty n.subscripts → lookup_by key_of value_of rows (key n) ≡ get g n) → ((n : Node) → (NoneEmpty n.subscripts → ⊥) → get g n ≡ None) → globals_by key_of value_of rows ≡ g
  are_globals rows keyed g same none = same_map o (node_cmp_exact significant_digits) (globals_by key_of value_of rows) g (λ n. by_subscripts n (none_empty_or n.subscripts))
    where
      by_subscripts : (n : Node) → NoneEmpty n.subscripts ⊎ (NoneEmpty n.subscripts → ⊥) → get (globals_by key_of value_of rows) n ≡ get g n
      by_subscripts n (inl some) = gets rows keyed n some ∙ same n some
      by_subscripts n (inr empty) = gets_none rows keyed n empty ∙ sym (none n empty)

  module _ (old new : List A) (keyed_old : AreKeyed key_of old) (keyed_new : AreKeyed key_of new) where
    pub stays : ((k : List ℕ) → lookup_by key_of value_of new k ≡ lookup_by key_of value_of old k) → globals_by key_of value_of new ≡ globals_by key_of value_of old
    stays same = are_globals new keyed_new (globals_by key_of value_of old) (λ n some. same (key n) ∙ sym (gets old keyed_old n some)) (λ n empty. gets_none old keyed_old n empty)

    pub puts : (n : Node) (v : List ℕ) → NoneEmpty n.subscripts → PutsAt (lookup_by key_of value_of old) (lookup_by key_of value_of new) (key n) v → globals_by key_of value_of new ≡ insert (globals_by key_of value_of old) n v
    puts n v some put = are_globals new keyed_new (insert (globals_by key_of value_of old) n v) at_each at_none
      where
        here : (m : Node) → NoneEmpty m.subscripts → (b : Bool) → eq_by_cmp (node_cmp significant_digits) m n ≡ b → lookup_by key_of value_of new (key m) ≡ cond b (Some v) (get (globals_by key_of value_of old) m)
        here m some_m true e = ap (λ q. lookup_by key_of value_of new (key q)) (same_of m n e) ∙ put.at
        here m some_m false e =
            put.others (key m) (λ same. different m e (keys_are_injective significant_digits m n some_m some same)) ∙ sym (gets old keyed_old m some_m)
          where
            different : (m : Node) → eq_by_cmp (node_cmp significant_digits) m n ≡ false → m ≢ n
            different m e same = let tied : eq_by_cmp (node_cmp significant_digits) n n ≡ true = (eq_by_cmp_equiv o).refl n in let other : eq_by_cmp (node_cmp significant_digits) n n ≡ false = subst (λ q. eq_by_cmp (node_cmp significant_digits) q n ≡ false) same e in absurd (cc)

        at_each : (m : Node) → NoneEmpty m.subscripts → lookup_by key_of value_of new (key m) ≡ get (insert (globals_by key_of value_of old) n v) m
        at_each m some_m = here m some_m (eq_by_cmp (node_cmp significant_digits) m n) refl ∙ sym (get-insert o (globals_by key_of value_of old) n v m)

        none_at : (m : Node) → (NoneEmpty m.subscripts → ⊥) → (b : Bool) → eq_by_cmp (node_cmp significant_digits) m n ≡ b → cond b (Some v) (get (globals_by key_of value_of old) m) ≡ None
        none_at m empty true e = absurd (empty (subst (λ q. NoneEmpty q.subscripts) (sym (same_of m n e)) some))
        none_at m empty false e = gets_none old keyed_old m empty

        at_none : (m : Node) → (NoneEmpty m.subscripts → ⊥) → get (insert (globals_by key_of value_of old) n v) m ≡ None
        at_none m empty = get-insert o (globals_by key_of value_of old) n v m ∙ none_at m empty (eq_by_cmp (node_cmp significant_digits) m n) refl

    pub kills : (n : Node) → NoneEmpty n.subscripts → RemovesWithin (lookup_by key_of value_of old) (lookup_by key_of value_of new) (key n) (subtree_end (key n)) → globals_by key_of value_of new ≡ without_subtree (globals_by key_of value_of old) n
    kills n some gone = are_globals new keyed_new (without_subtree (globals_by key_of value_of old) n) at_each at_none
      where
        kept : (m : Node) → get (without_subtree (globals_by key_of value_of old) n) m ≡ cond (not (is_node_within n m)) (get (globals_by key_of value_of old) m) None
        kept m = get-retain_keys (globals_by key_of value_of old) (λ q. not (is_node_within n q)) m (λ q tied. ap (λ r. not (is_node_within n r)) (sym (node_cmp_exact significant_digits m q tied)))

        here : (m : Node) → NoneEmpty m.subscripts → (b : Bool) → is_node_within n m ≡ b → lookup_by key_of value_of new (key m) ≡ cond (not b) (get (globals_by key_of value_of old) m) None
        here m some_m true e = gone.gone (key m) (range_is n m some some_m ∙ e)
        here m some_m false e = gone.others (key m) (range_is n m some some_m ∙ e) ∙ sym (gets old keyed_old m some_m)

        at_each : (m : Node) → NoneEmpty m.subscripts → lookup_by key_of value_of new (key m) ≡ get (without_subtree (globals_by key_of value_of old) n) m
        at_each m some_m = here m some_m (is_node_within n m) refl ∙ sym (kept m)

        none_at : (m : Node) → (NoneEmpty m.subscripts → ⊥) → (b : Bool) → cond b (get (globals_by key_of value_of old) m) None ≡ None
        none_at m empty true = gets_none old keyed_old m empty
        none_at m empty false = refl

        at_none : (m : Node) → (NoneEmpty m.subscripts → ⊥) → get (without_subtree (globals_by key_of value_of old) n) m ≡ None
        at_none m empty = kept m ∙ none_at m empty (not (is_node_within n m))
