-- SPDX-License-Identifier: Apache-2.0
-- The first and the last key of rows within bounds, as those of the globals that the rows hold.
use Rattle.mstore.proofs.Words.{ℕ, ◌≡◌, ◌⊎◌, inl, inr, Bool, true, false, cond, ◌&&◌, Option, Some, None, option_map, is_some, List, [], ◌∷◌, map, length}
use Rattle.mstore.proofs.Words.{reverse, refl, sym, ◌∙◌, ap, subst, arith, and_parts, option_or, AllByRecursion, eq_by_cmp}
use Rattle.mstore.proofs.Words.{eq_by_cmp_equiv, Equal-is, slice_cmp, nat_cmp-IsAntisymmetric, slice_cmp-IsAntisymmetric}
use Rattle.mstore.proofs.Words.{len-entries, len-empty, entries, entries_sorted, entries-insert, get-entries, empty, reverse-append, find-append, Node}
use Rattle.mstore.proofs.Words.{significant_digits, node_cmp, NoneEmpty, node_of, Globals, keys_of, is_between, node_cmp_total, key_order, IsKey, none_empty}
use Rattle.mstore.proofs.Words.{ShowsBytes, is_below, is_nearer, lookup_by, globals_by, AreKeyed, step_key, Text}
use Rattle.mnodes.proofs.SortedEntries.{from_T}
use Rattle.std.specs.Prelude.{⊤, T, IsSome}
use Rattle.std.specs.List.{find}
use Rattle.std.specs.Ordering.{nat_cmp, is_eq, is_lt}
use Rattle.std.specs.FinMap.Entries as Entries
use Rattle.mstore.proofs.KeyBounds.{below_not as below_back, not_itself as below_itself, same_if as neither_below}
use Rattle.mstore.proofs.KeyedRows.{key, node_at, same_of, gets}

-- ---- keys in a list

In : List (List ℕ) → List ℕ → Type 0
In [] k = ⊥
In (q ∷ ks) k = (k ≡ q) ⊎ In ks k

-- each before those after it
AreRising : List (List ℕ) → Type 0
AreRising [] = ⊤
AreRising (k ∷ ks) = ((q : List ℕ) → In ks q → is_below k q ≡ true) × AreRising ks

-- what is found of the keys that pass a test: one to which none of them is nearer
IsFound : Bool → (List ℕ → Bool) → List (List ℕ) → Option (List ℕ) → Type 0
IsFound down p ks None = (q : List ℕ) → In ks q → p q ≡ false
IsFound down p ks (Some k) = In ks k × ((p k ≡ true) × ((q : List ℕ) → In ks q → p q ≡ true → is_nearer down k q ≡ false))

-- what holds of the first and of those after it
each_of : (P : List ℕ → Type 0) (k : List ℕ) (ks : List (List ℕ)) → P k → ((q : List ℕ) → In ks q → P q) → (q : List ℕ) → (q ≡ k) ⊎ In ks q → P q
each_of P k ks here later q (inl same) = subst P (sym same) here
each_of P k ks here later q (inr is) = later q is

found_first : (p : List ℕ → Bool) (ks : List (List ℕ)) → AreRising ks → IsFound false p ks (find p ks)
unfolding In AreRising IsFound
found_first p [] rising = λ q is. absurd is
found_first p (k ∷ ks) rising = here (p k) refl (find p ks) (found_first p ks rising.1)
  where
    here : (b : Bool) → p k ≡ b → (r : Option (List ℕ)) → IsFound false p ks r → IsFound false p (k ∷ ks) (cond b (Some k) r)
    here true e r found =
        (inl refl, (e, each_of (λ q. p q ≡ true → is_below q k ≡ false) k ks (λ t. below_itself k) (λ q later t. below_back k q (rising.0 q later))))
    here false e None found = each_of (λ q. p q ≡ false) k ks e found
    here false e (Some h) found =
        (inr found.0, (found.1.0, each_of (λ q. p q ≡ true → is_below q h ≡ false) k ks (λ t. let no : false ≡ true = sym e ∙ t in absurd (cc)) found.1.1))

found_last : (p : List ℕ → Bool) (ks : List (List ℕ)) → AreRising ks → IsFound true p ks (find p (reverse ks))
unfolding In AreRising IsFound
found_last p [] rising = λ q is. absurd is
found_last p (k ∷ ks) rising =
    subst (IsFound true p (k ∷ ks)) (sym (ap (find p) (reverse-append (k ∷ []) ks) ∙ find-append p (reverse ks) (k ∷ [])))
    (here (p k) refl (find p (reverse ks)) (found_last p ks rising.1))
  where
    here : (b : Bool) → p k ≡ b → (r : Option (List ℕ)) → IsFound true p ks r → IsFound true p (k ∷ ks) (option_or r (cond b (Some k) None))
    here true e None found =
        (inl refl, (e, each_of (λ q. p q ≡ true → is_below k q ≡ false) k ks (λ t. below_itself k) (λ q later t. let no : false ≡ true = sym (found q later) ∙ t in absurd (cc))))
    here false e None found = each_of (λ q. p q ≡ false) k ks e found
    here b e (Some h) found =
        (inr found.0, (found.1.0, each_of (λ q. p q ≡ true → is_below h q ≡ false) k ks (λ t. below_back k h (rising.0 h found.0)) found.1.1))

-- ---- the keys of globals

AllSome : List (Node × Text) → Type 0
AllSome = AllByRecursion (λ e. NoneEmpty e.0.subscripts)

keys_in : List (Node × Text) → List (List ℕ)
keys_in es = map key (map (λ e. e.0) es)

below_node : (x y : Node) → NoneEmpty x.subscripts → NoneEmpty y.subscripts → is_lt (node_cmp significant_digits x y) ≡ true → is_below (key x) (key y) ≡ true
below_node x y some_x some_y e = ap is_lt (key_order significant_digits x y some_x some_y) ∙ e

below_in : (x : Node) → NoneEmpty x.subscripts → (es : List (Node × Text)) → AllSome es → T (Entries.below_all (node_cmp significant_digits) x es)
    → (q : List ℕ) → In (keys_in es) q → is_below (key x) q ≡ true
unfolding In AllSome keys_in
below_in x some [] all below q is = absurd is
below_in x some (e ∷ es) all below q is =
    let parts = and_parts (is_lt (node_cmp significant_digits x e.0)) (Entries.below_all (node_cmp significant_digits) x es) (from_T (is_lt (node_cmp significant_digits x e.0) && Entries.below_all (node_cmp significant_digits) x es) below) in
    each_of (λ k. is_below (key x) k ≡ true) (key e.0) (keys_in es) (below_node x e.0 some all.0 parts.0) (below_in x some es all.1 (subst T (sym parts.1) tt)) q is

rising : (es : List (Node × Text)) → AllSome es → T (Entries.is_sorted (node_cmp significant_digits) es) → AreRising (keys_in es)
unfolding AllSome AreRising keys_in
rising [] all sorted = tt
rising (e ∷ es) all sorted =
    let parts = and_parts (Entries.below_all (node_cmp significant_digits) e.0 es) (Entries.is_sorted (node_cmp significant_digits) es) (from_T (Entries.below_all (node_cmp significant_digits) e.0 es && Entries.is_sorted (node_cmp significant_digits) es) sorted) in
    (below_in e.0 all.0 es all.1 (subst T (sym parts.0) tt), rising es all.1 (subst T (sym parts.1) tt))

-- a key in the list is that of a node that has a text
record IsOf (h : List ℕ) (es : List (Node × Text)) : Type 0 where
  node : Node
  same : h ≡ key node
  some : NoneEmpty node.subscripts
  text : IsSome (Entries.find (node_cmp significant_digits) node es)

in_found : (es : List (Node × Text)) → AllSome es → (h : List ℕ) → In (keys_in es) h → IsOf h es
unfolding In AllSome keys_in
in_found [] all h is = absurd is
in_found (e ∷ es) all h is = by_place (in_found es all.1 h) is
  where
    later_too : (b : Bool) (x : Option Text) → IsSome x → IsSome (cond b (Some e.1) x)
    later_too b x h = grind arith

    by_place : (In (keys_in es) h → IsOf h es) → (h ≡ key e.0) ⊎ In (keys_in es) h → IsOf h (e ∷ es)
    by_place rest (inl same) =
        let itself : eq_by_cmp (node_cmp significant_digits) e.0 e.0 ≡ true = (eq_by_cmp_equiv (node_cmp_total significant_digits)).refl e.0 in
        record { node = e.0; same = same; some = all.0; text = ap (λ b. is_some (cond b (Some e.1) (Entries.find (node_cmp significant_digits) e.0 es))) itself }
    by_place rest (inr later) =
        let it = rest later in
        record { node = it.node; same = it.same; some = it.some; text = later_too (eq_by_cmp (node_cmp significant_digits) it.node e.0) (Entries.find (node_cmp significant_digits) it.node es) it.text }

found_in : (es : List (Node × Text)) (n : Node) → IsSome (Entries.find (node_cmp significant_digits) n es) → In (keys_in es) (key n)
unfolding In keys_in
found_in [] n some = absurd (cc)
found_in (e ∷ es) n some = here (eq_by_cmp (node_cmp significant_digits) n e.0) refl some (found_in es n)
  where
    here : (b : Bool) → eq_by_cmp (node_cmp significant_digits) n e.0 ≡ b → IsSome (cond b (Some e.1) (Entries.find (node_cmp significant_digits) n es))
        → (IsSome (Entries.find (node_cmp significant_digits) n es) → In (keys_in es) (key n)) → (key n ≡ key e.0) ⊎ In (keys_in es) (key n)
    here true e some rest = inl (ap key (same_of n _ e))
    here false e some rest = inr (rest some)

put_some : (n : Node) (v : Text) → NoneEmpty n.subscripts → (es : List (Node × Text)) → AllSome es → AllSome (Entries.put (node_cmp significant_digits) n v es)
unfolding AllSome
put_some n v some [] all = (some, tt)
put_some n v some (e ∷ es) all = grind (arith, put_some n v some es all.1)

of_none : (es : List (Node × Text)) → length es ≡ 0 → AllSome es
unfolding AllSome
of_none [] e = tt
of_none (x ∷ es) e = absurd (omega arith)

-- ---- the keys that the rows hold

same_key : (a b : List ℕ) → is_eq (slice_cmp nat_cmp a b) ≡ true → a ≡ b
same_key a b e = slice_cmp-IsAntisymmetric nat_cmp-IsAntisymmetric a b ((Equal-is (slice_cmp nat_cmp a b)).0 e)

module _ {A : Type 0} (key_of value_of : A → List ℕ) where
  key_is : (rows : List A) → AreKeyed key_of rows → (k : List ℕ) → IsSome (lookup_by key_of value_of rows k) → IsKey k
  key_is [] keyed k some = absurd (cc)
  key_is (r ∷ rows) keyed k some = here (is_eq (slice_cmp nat_cmp (key_of r) k)) refl some (key_is rows keyed.1 k)
    where
      here : (b : Bool) → is_eq (slice_cmp nat_cmp (key_of r) k) ≡ b
          → IsSome (option_map value_of (cond b (Some r) (find (λ x. is_eq (slice_cmp nat_cmp (key_of x) k)) rows)))
          → (IsSome (lookup_by key_of value_of rows k) → IsKey k) → IsKey k
      here true e some rest = subst IsKey (same_key (key_of r) k e) keyed.0
      here false e some rest = rest some

  all_some : (rows : List A) → AreKeyed key_of rows → AllSome (entries (globals_by key_of value_of rows))
  all_some [] keyed = of_none (entries empty) (sym (len-entries empty) ∙ len-empty (node_cmp significant_digits) Text)
  all_some (r ∷ rows) keyed =
      subst AllSome (sym (entries-insert (node_cmp_total significant_digits) (globals_by key_of value_of rows) (node_of (key_of r)) (value_of r)))
      (put_some (node_of (key_of r)) (value_of r) some (entries (globals_by key_of value_of rows)) (all_some rows keyed.1))
    where
      some : NoneEmpty (node_of (key_of r)).subscripts
      some = subst (λ n. NoneEmpty n.subscripts) (sym (node_at (key_of r) keyed.0)) (none_empty keyed.0.0 keyed.0.1.0)

  module _ (rows : List A) (keyed : AreKeyed key_of rows) where
    are_rising : AreRising (keys_of (globals_by key_of value_of rows))
    unfolding keys_in
    are_rising = rising (entries (globals_by key_of value_of rows)) (all_some rows keyed) (entries_sorted (globals_by key_of value_of rows))

    some_in : (k : List ℕ) → IsSome (lookup_by key_of value_of rows k) → In (keys_of (globals_by key_of value_of rows)) k
    unfolding keys_in
    some_in k some =
        let is = key_is rows keyed k some in
        let g : Globals = globals_by key_of value_of rows in
        let text : Entries.find (node_cmp significant_digits) is.0 (entries g) ≡ lookup_by key_of value_of rows k =
        sym (get-entries g is.0) ∙ gets key_of value_of rows keyed is.0 (none_empty is.0 is.1.0) ∙ ap (lookup_by key_of value_of rows) is.1.1 in
        subst (In (keys_in (entries g))) is.1.1 (found_in (entries g) is.0 (ap is_some text ∙ some))

    in_some : (k : List ℕ) → In (keys_of (globals_by key_of value_of rows)) k → IsSome (lookup_by key_of value_of rows k)
    unfolding keys_in
    in_some k is =
        let g : Globals = globals_by key_of value_of rows in
        let it = in_found (entries g) (all_some rows keyed) k is in
        ap (λ q. is_some (lookup_by key_of value_of rows q)) it.same
        ∙ ap is_some (sym (gets key_of value_of rows keyed it.node it.some) ∙ get-entries g it.node)
        ∙ it.text

    nearest_is : (down : Bool) (h k : List ℕ) → is_nearer down h k ≡ false → is_nearer down k h ≡ false → k ≡ h
    nearest_is false h k e f = neither_below k h e f
    nearest_is true h k e f = neither_below k h f e

    shown : (down : Bool) (low high : List ℕ) (r : Option (List ℕ)) (found : IsFound down (is_between low high) (keys_of (globals_by key_of value_of rows)) r) (q : Option (List ℕ))
        → ShowsBytes down (lookup_by key_of value_of rows) low high q → q ≡ r
    unfolding IsFound
    shown down low high None found None shows = refl
    shown down low high None found (Some k) shows = let no : false ≡ true = sym (found k (some_in k shows.some)) ∙ shows.within in absurd (cc)
    shown down low high (Some h) found None shows = let no : false ≡ true = sym (ap is_some (shows h found.1.0)) ∙ in_some h found.0 in absurd (cc)
    shown down low high (Some h) found (Some k) shows =
        ap Some (nearest_is down h k (found.1.1 k (some_in k shows.some) shows.within) (shows.none_nearer h (in_some h found.0) found.1.0))

    pub steps : (down : Bool) (low high : List ℕ) (q : Option (List ℕ)) → ShowsBytes down (lookup_by key_of value_of rows) low high q
        → q ≡ step_key down (globals_by key_of value_of rows) low high
    steps false low high q shows = shown false low high _ (found_first (is_between low high) (keys_of (globals_by key_of value_of rows)) are_rising) q shows
    steps true low high q shows = shown true low high _ (found_last (is_between low high) (keys_of (globals_by key_of value_of rows)) are_rising) q shows
