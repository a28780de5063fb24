-- SPDX-License-Identifier: Apache-2.0
-- The keys to which a walk of $QUERY comes, and what is found among them.
use Rattle.mglobal.proofs.GlobalWords.{ℕ, zero, suc, ◌≡◌, Bool, true, false, not, ◌&&◌, ◌||◌, cond, if◌then◌else◌, Option, Some, None, option_map}
use Rattle.mglobal.proofs.GlobalWords.{List, [], ◌∷◌, ◌++◌, length, drop, reverse, filter, find, All, refl, sym, ◌∙◌, ap, arith}
use Rattle.mglobal.proofs.GlobalWords.{append-nil, slice_cmp, nat_cmp, is_le, is_lt, ordering_then, Ordering, Less, Equal, Greater, IsTotalOrder}
use Rattle.mglobal.proofs.GlobalWords.{nat_list_cmp_total, bytes_decides, keys, Globals, is_between, is_beside, is_node_within, key_bytes, subtree_end}
use Rattle.mglobal.proofs.GlobalWords.{NoneEmpty}
use Rattle.mglobal.proofs.GlobalWords.{IsStored, IsKeyOf, AreHeld, Text, Node, canonical_value, node_cmp, subscripts_cmp, significant_digits, text_eq}
use Rattle.mglobal.proofs.GlobalWords.{is_within}
use Rattle.mglobal.proofs.GlobalWords.{front, Direction, Forward, Backward, starts_node, key_behind, within_parts, both_true, nearest_key, none_empty}
use Rattle.std.proofs.Math.Bool.{and-true, or-false, or-true}
use Rattle.std.proofs.lemmas.Cmp.{tied_itself}
use Rattle.std.specs.Ordering.{ordering_reverse}
use Rattle.std.proofs.lemmas.List.{reverse-append}
use Rattle.std.proofs.lemmas.List.Elements.{filter-append}
use Rattle.mspec.proofs.KeyOrders.{key_order}
use Rattle.mspec.specs.Globals.{following_at}
use Rattle.mspec.specs.Trees.{AreQuerySubscripts, ends_empty, without_empty, comes_before, is_passed}
use Rattle.mkey.proofs.Searches.{searched, searched_after, without_last, with_last}
use Rattle.mglobal.specs.Next.{BoundsFollowing, is_met}
use Rattle.mspec.proofs.Basics.{less}
use Rattle.mglobal.proofs.GlobalWords.{nat_tests}
use Rattle.mglobal.proofs.Between.{bytes, both, between_front, before_three}
use Rattle.mglobal.proofs.Orders.{found_map, found_alike, found_one, map_reversed, in_turn, nearest_is, stored_in_turn, all_stored}

abbrev L : List ℕ → List ℕ → Ordering
L = slice_cmp nat_cmp

abbrev R : List Text → List Text → Ordering
R = subscripts_cmp significant_digits

abbrev key : Node → List ℕ
key = key_bytes significant_digits

-- the end of the keys of a node and of what is below it
abbrev end_of : Node → List ℕ
end_of n = subtree_end (key n)

abbrev pub node_at : Node → List Text → Node
node_at n xs = record { account = n.account; name = n.name; subscripts = xs }

-- ---- truths

not_both : (a b : Bool) → (a ≡ true → b ≡ true → ⊥) → (a && b) ≡ false
not_both true true h = absurd (h refl refl)
not_both true false h = refl
not_both false b h = refl

-- ---- orders of bytes

then_both : (o a b : Ordering) → is_le a ≡ is_lt b → is_le (ordering_then o a) ≡ is_lt (ordering_then o b)
then_both Less a b h = refl
then_both Equal a b h = h
then_both Greater a b h = refl

zero_first : (d : ℕ) (y : List ℕ) → is_le (ordering_then (nat_cmp 0 d) (L [] y)) ≡ true
zero_first zero [] = refl
zero_first zero (e ∷ y) = refl
zero_first (suc d) y = grind (arith, nat_tests)

-- the bytes from the next ones on are those that come after
just_behind : (k y : List ℕ) → is_le (L (k ++ 0 ∷ []) y) ≡ is_lt (L k y)
just_behind [] [] = refl
just_behind [] (d ∷ y) = zero_first d y
just_behind (c ∷ k) [] = refl
just_behind (c ∷ k) (d ∷ y) = then_both (nat_cmp c d) (L (k ++ 0 ∷ []) y) (L k y) (just_behind k y)

at_most : (o : Ordering) → is_lt o ≡ true → is_le o ≡ true
at_most Less h = refl
at_most Equal h = absurd (cc)
at_most Greater h = absurd (cc)

total : IsTotalOrder L
total = nat_list_cmp_total

le_lt : (a b c : List ℕ) → is_le (L a b) ≡ true → is_lt (L b c) ≡ true → is_lt (L a c) ≡ true
le_lt a b c le lt = by_order (L a b) refl le
  where
    by_order : (o : Ordering) → L a b ≡ o → is_le o ≡ true → is_lt (L a c) ≡ true
    by_order Less e h = ap is_lt (total.trans a b c e (less (L b c) lt))
    by_order Equal e h = ap is_lt (total.congr a b c e) ∙ lt
    by_order Greater e h = absurd (cc)

reversed : (o : Ordering) → is_lt (ordering_reverse o) ≡ not (is_le o)
reversed Less = refl
reversed Equal = refl
reversed Greater = refl

turned : (a b : List ℕ) → is_lt (L b a) ≡ not (is_le (L a b))
turned a b = ap is_lt (total.antisymm b a) ∙ reversed (L a b)

-- ---- orders of nodes

same_global : (n m : Node) → is_beside n m ≡ true → (n.account ≡ m.account) × (n.name ≡ m.name)
same_global n m e =
    let parts = both_true (text_eq n.account m.account) (text_eq n.name m.name) e in
    ((bytes_decides n.account m.account).0 parts.0, (bytes_decides n.name m.name).0 parts.1)

itself : (x y : Text) (o : Ordering) → x ≡ y → ordering_then (L x y) o ≡ o
itself x y o e = ap (λ z. ordering_then (L x z) o) (sym e) ∙ ap (λ t. ordering_then t o) (tied_itself total x)

-- nodes of one global come in the order of their subscripts
within_global : (n m : Node) → n.account ≡ m.account → n.name ≡ m.name → node_cmp significant_digits n m ≡ R n.subscripts m.subscripts
within_global n m account name =
    itself n.account m.account (ordering_then (L n.name m.name) (R n.subscripts m.subscripts)) account ∙ itself n.name m.name (R n.subscripts m.subscripts) name

-- ---- what begins with the key of a node

first_le : (x : List ℕ) → is_le (L [] x) ≡ true
first_le [] = refl
first_le (c ∷ x) = refl

rest_between : (more : List Text) → is_between [] (3 ∷ []) (bytes more) ≡ true
rest_between [] = refl
rest_between (c ∷ more) = both _ _ (first_le (bytes (c ∷ more))) (before_three c (canonical_value significant_digits c) (bytes more))

subtree_is : (f m : Node) → NoneEmpty f.subscripts → NoneEmpty m.subscripts → is_between (key f) (end_of f) (key m) ≡ is_node_within f m
subtree_is f m some_f some_m =
    ap (λ low. is_between low (end_of f) (key m)) (sym (append-nil (key f)))
    ∙ between_front (key f) [] (3 ∷ []) (key m)
    ∙ ap (λ b. b && is_between [] (3 ∷ []) (drop (length (key f)) (key m))) (starts_node f m some_f some_m _ refl)
    ∙ by_within (is_node_within f m) refl
  where
    by_within : (b : Bool) → is_node_within f m ≡ b → (b && is_between [] (3 ∷ []) (drop (length (key f)) (key m))) ≡ b
    by_within true e = ap (is_between [] (3 ∷ [])) (key_behind f m e) ∙ rest_between (drop (length f.subscripts) m.subscripts)
    by_within false e = refl

none : NoneEmpty []
none = λ k d inside. absurd (omega (arith, inside))

-- ---- among the keys of all globals

module _ (n m : Node) (base : List Text) (some_b : NoneEmpty base) (some_m : NoneEmpty m.subscripts) where
  root_is : is_between (key (node_at n [])) (end_of (node_at n [])) (key m) ≡ is_beside n m
  root_is = subtree_is (node_at n []) m none some_m ∙ ap (λ b. text_eq n.account m.account && b) (and-true (text_eq n.name m.name))

  base_within : is_between (key (node_at n [])) (end_of (node_at n [])) (key (node_at n base)) ≡ true
  base_within =
      subtree_is (node_at n []) (node_at n base) none some_b
      ∙ both (text_eq n.account n.account) (text_eq n.name n.name && true) ((bytes_decides n.account n.account).1 refl)
      (both (text_eq n.name n.name) true ((bytes_decides n.name n.name).1 refl) refl)

  base_parts : (is_le (L (key (node_at n [])) (key (node_at n base))) ≡ true) × (is_lt (L (key (node_at n base)) (end_of (node_at n []))) ≡ true)
  base_parts = both_true _ _ base_within

  after_order : is_lt (L (key (node_at n base)) (key m)) ≡ is_lt (node_cmp significant_digits (node_at n base) m)
  after_order = ap is_lt (key_order significant_digits (node_at n base) m some_b some_m)

  before_order : is_lt (L (key m) (key (node_at n base))) ≡ is_lt (node_cmp significant_digits m (node_at n base))
  before_order = ap is_lt (key_order significant_digits m (node_at n base) some_m some_b)

  -- forward
  pub after_is : is_between (key (node_at n base) ++ 0 ∷ []) (end_of (node_at n [])) (key m) ≡ (is_beside n m && is_lt (R base m.subscripts))
  after_is = ap (λ b. b && is_lt (L (key m) (end_of (node_at n [])))) (just_behind (key (node_at n base)) (key m)) ∙ by_beside (is_beside n m) refl
    where
      by_beside : (b : Bool) → is_beside n m ≡ b
          → (is_lt (L (key (node_at n base)) (key m)) && is_lt (L (key m) (end_of (node_at n [])))) ≡ (b && is_lt (R base m.subscripts))
      by_beside true e =
          let same = same_global n m e in
          let inside = both_true _ _ (root_is ∙ e) in
          ap (λ b. is_lt (L (key (node_at n base)) (key m)) && b) inside.1 ∙ and-true _ ∙ after_order
          ∙ ap is_lt (within_global (node_at n base) m same.0 same.1)
      by_beside false e = not_both _ _ (λ after before.
          let low = at_most _ (le_lt (key (node_at n [])) (key (node_at n base)) (key m) base_parts.0 after) in
          let there : true ≡ false = sym (both _ _ low before) ∙ root_is ∙ e in cc)

  -- backward, from a node
  pub before_is : is_between (key (node_at n [])) (key (node_at n base)) (key m) ≡ (is_beside n m && is_lt (R m.subscripts base))
  before_is = by_beside (is_beside n m) refl
    where
      by_beside : (b : Bool) → is_beside n m ≡ b
          → (is_le (L (key (node_at n [])) (key m)) && is_lt (L (key m) (key (node_at n base)))) ≡ (b && is_lt (R m.subscripts base))
      by_beside true e =
          let same = same_global n m e in
          let inside = both_true _ _ (root_is ∙ e) in
          ap (λ b. b && is_lt (L (key m) (key (node_at n base)))) inside.0 ∙ before_order ∙ ap is_lt
          (within_global m (node_at n base) (sym same.0) (sym same.1))
      by_beside false e = not_both _ _ (λ low before.
          let high = le_lt (key m) (key (node_at n base)) (end_of (node_at n [])) (at_most _ before) base_parts.1 in
          let there : true ≡ false = sym (both _ _ low high) ∙ root_is ∙ e in cc)

  -- and from the end of all that is at or below one
  below_is : is_between (key (node_at n base)) (end_of (node_at n base)) (key m) ≡ is_node_within (node_at n base) m
  below_is = subtree_is (node_at n base) m some_b some_m

  base_end : is_lt (L (key (node_at n base)) (end_of (node_at n base))) ≡ true
  base_end =
      (both_true _ _ (subtree_is (node_at n base) (node_at n base) some_b some_b
      ∙ both (text_eq n.account n.account) (text_eq n.name n.name && is_within base base) ((bytes_decides n.account n.account).1 refl)
      (both (text_eq n.name n.name) (is_within base base) ((bytes_decides n.name n.name).1 refl) (within_itself base)))).1
    where
      within_itself : (xs : List Text) → is_within xs xs ≡ true
      within_itself [] = refl
      within_itself (x ∷ xs) = both (text_eq x x) (is_within xs xs) ((bytes_decides x x).1 refl) (within_itself xs)

  by_side : (le lt w before : Bool) → (le && lt) ≡ w → before ≡ not le → (before ≡ true → lt ≡ true) → lt ≡ (w || before)
  by_side true lt w before is not_before passed = is ∙ sym (or-false w) ∙ ap (λ b. w || b) (sym not_before)
  by_side false lt w before is is_before passed = passed is_before ∙ sym (or-true w) ∙ ap (λ b. w || b) (sym is_before)

  end_is : is_lt (L (key m) (end_of (node_at n base))) ≡ (is_node_within (node_at n base) m || is_lt (L (key m) (key (node_at n base))))
  end_is =
      by_side (is_le (L (key (node_at n base)) (key m))) _ _ _ below_is (turned (key (node_at n base)) (key m))
      (λ before. le_lt (key m) (key (node_at n base)) (end_of (node_at n base)) (at_most _ before) base_end)

  pub before_end_is : is_between (key (node_at n [])) (end_of (node_at n base)) (key m)
      ≡ (is_beside n m && (is_within base m.subscripts || is_lt (R m.subscripts base)))
  before_end_is = by_beside (is_beside n m) refl
    where
      within_one : is_beside n m ≡ true → is_node_within (node_at n base) m ≡ is_within base m.subscripts
      within_one e =
          let parts = both_true (text_eq n.account m.account) (text_eq n.name m.name) e in
          ap (λ b. b && (text_eq n.name m.name && is_within base m.subscripts)) parts.0 ∙ ap (λ b. b && is_within base m.subscripts) parts.1

      elsewhere : (w before : Bool) → is_node_within (node_at n base) m ≡ w → is_lt (L (key m) (key (node_at n base))) ≡ before → (w || before) ≡ true
          → is_le (L (key (node_at n [])) (key m)) ≡ true → is_beside n m ≡ true
      elsewhere true before is_w is_b e low = (within_parts (node_at n base) m is_w).0
      elsewhere false before is_w is_b e low =
          sym root_is ∙ both _ _ low (le_lt (key m) (key (node_at n base)) (end_of (node_at n [])) (at_most _ (is_b ∙ e)) base_parts.1)

      by_beside : (b : Bool) → is_beside n m ≡ b
          → (is_le (L (key (node_at n [])) (key m)) && is_lt (L (key m) (end_of (node_at n base))))
          ≡ (b && (is_within base m.subscripts || is_lt (R m.subscripts base)))
      by_beside true e =
          let same = same_global n m e in
          let inside = both_true _ _ (root_is ∙ e) in
          ap (λ b. b && is_lt (L (key m) (end_of (node_at n base)))) inside.0 ∙ end_is
          ∙ ap (λ w. w || is_lt (L (key m) (key (node_at n base)))) (within_one e)
          ∙ ap (λ b. is_within base m.subscripts || b) (before_order ∙ ap is_lt (within_global m (node_at n base) (sym same.0) (sym same.1)))
      by_beside false e = not_both _ _ (λ low before.
          let there : true ≡ false = sym (elsewhere _ _ refl refl (sym end_is ∙ before) low) ∙ e in cc)

-- ---- the bounds

-- `is_passed`, by whether the last subscript is empty
abbrev passed_if : Bool → List Text → List Text → Bool
passed_if b xs ys = if b then is_within (front xs) ys || comes_before ys (front xs) else comes_before ys xs

module _ (n : Node) (are : AreQuerySubscripts n.subscripts) where
  base_some : NoneEmpty (without_empty n.subscripts)
  base_some = λ k d inside. ((searched n.subscripts are).each k d inside).some

  pub forward_bounds : BoundsFollowing Forward n (key (node_at n (without_empty n.subscripts)) ++ 0 ∷ []) (end_of (node_at n []))
  forward_bounds m stored =
      after_is n m (without_empty n.subscripts) base_some (none_empty m stored)
      ∙ ap (λ b. is_beside n m && b) (searched_after n.subscripts m.subscripts (none_empty m stored))

  pub backward_bounds : ends_empty n.subscripts ≡ false → BoundsFollowing Backward n (key (node_at n [])) (key (node_at n (without_empty n.subscripts)))
  backward_bounds e m stored =
      before_is n m (without_empty n.subscripts) base_some (none_empty m stored)
      ∙ ap (λ xs. is_beside n m && is_lt (R m.subscripts xs)) (sym (with_last n.subscripts e))
      ∙ ap (λ b. is_beside n m && passed_if b n.subscripts m.subscripts) (sym e)

  pub backward_end_bounds : ends_empty n.subscripts ≡ true → BoundsFollowing Backward n (key (node_at n [])) (end_of (node_at n (without_empty n.subscripts)))
  backward_end_bounds e m stored =
      before_end_is n m (without_empty n.subscripts) base_some (none_empty m stored)
      ∙ ap (λ xs. is_beside n m && (is_within xs m.subscripts || is_lt (R m.subscripts xs))) (sym (without_last n.subscripts e))
      ∙ ap (λ b. is_beside n m && passed_if b n.subscripts m.subscripts) (sym e)

module _ (n : Node) (are : AreQuerySubscripts n.subscripts) (low high : List ℕ) where
  pub forward_between : low ≡ key (node_at n (without_empty n.subscripts)) ++ 0 ∷ [] → high ≡ end_of (node_at n []) → BoundsFollowing Forward n low high
  forward_between e f m stored =
      ap (λ l. is_between l high (key m)) e
      ∙ ap (λ h. is_between (key (node_at n (without_empty n.subscripts)) ++ 0 ∷ []) h (key m)) f ∙ forward_bounds n are m stored

  pub backward_between : ends_empty n.subscripts ≡ false
      → low ≡ key (node_at n []) → high ≡ key (node_at n (without_empty n.subscripts)) → BoundsFollowing Backward n low high
  backward_between kept e f m stored =
      ap (λ l. is_between l high (key m)) e ∙ ap (λ h. is_between (key (node_at n [])) h (key m)) f ∙ backward_bounds n are kept m stored

  pub backward_end_between : ends_empty n.subscripts ≡ true
      → low ≡ key (node_at n []) → high ≡ end_of (node_at n (without_empty n.subscripts)) → BoundsFollowing Backward n low high
  backward_end_between gone e f m stored =
      ap (λ l. is_between l high (key m)) e ∙ ap (λ h. is_between (key (node_at n [])) h (key m)) f ∙ backward_end_bounds n are gone m stored

-- ---- what is found between them

found_filter : {A : Type 0} (p q : A → Bool) (xs : List A) → find p (filter q xs) ≡ find (λ x. q x && p x) xs
found_filter p q [] = refl
found_filter p q (x ∷ xs) = here (q x) (found_filter p q xs)
  where
    here : (b : Bool) → find p (filter q xs) ≡ find (λ x. q x && p x) xs
        → find p (cond b (x ∷ filter q xs) (filter q xs)) ≡ cond (b && p x) (Some x) (find (λ x. q x && p x) xs)
    here true h = ap (cond (p x) (Some x)) h
    here false h = h

filter_reversed : {A : Type 0} (q : A → Bool) (xs : List A) → reverse (filter q xs) ≡ filter q (reverse xs)
filter_reversed q [] = refl
filter_reversed q (x ∷ xs) =
    here (q x) refl ∙ ap (λ l. l ++ filter q (x ∷ [])) (filter_reversed q xs)
    ∙ sym (filter-append q (reverse xs) (x ∷ [])) ∙ ap (filter q) (sym (reverse-append (x ∷ []) xs))
  where
    here : (b : Bool) → q x ≡ b → reverse (cond b (x ∷ filter q xs) (filter q xs)) ≡ reverse (filter q xs) ++ filter q (x ∷ [])
    here true e = reverse-append (x ∷ []) (filter q xs) ∙ ap (λ b. reverse (filter q xs) ++ cond b (x ∷ []) []) (sym e)
    here false e = sym (append-nil (reverse (filter q xs))) ∙ ap (λ b. reverse (filter q xs) ++ cond b (x ∷ []) []) (sym e)

-- whether a walk from n comes to m
abbrev meets : Direction → Node → Node → Bool
meets d n m = is_beside n m && is_met d n.subscripts m.subscripts

-- the node that follows, as the first of all that a walk comes to
found_at : (d : Direction) (n : Node) (g : Globals)
    → following_at g d n ≡ option_map (λ (m : Node). m.subscripts) (find (meets d n) (in_turn d (keys g)))
found_at Forward n g =
    found_map (λ (m : Node). m.subscripts) (λ (ys : List Text). comes_before n.subscripts ys) (filter (is_beside n) (keys g))
    ∙ ap (option_map (λ (m : Node). m.subscripts)) (found_filter (λ (m : Node). comes_before n.subscripts m.subscripts) (is_beside n) (keys g))
found_at Backward n g =
    ap (find (λ (ys : List Text). is_passed n.subscripts ys)) (map_reversed (λ (m : Node). m.subscripts) (filter (is_beside n) (keys g)))
    ∙ found_map (λ (m : Node). m.subscripts) (λ (ys : List Text). is_passed n.subscripts ys) (reverse (filter (is_beside n) (keys g)))
    ∙ ap (option_map (λ (m : Node). m.subscripts)) (ap (find (λ (m : Node). is_passed n.subscripts m.subscripts)) (filter_reversed (is_beside n) (keys g))
    ∙ found_filter (λ (m : Node). is_passed n.subscripts m.subscripts) (is_beside n) (reverse (keys g)))

-- the key is that of the node that follows
pub record IsFollowing (n : Node) (d : Direction) (g : Globals) (bytes : List ℕ) : Type 0 where
  pub node : Node
  pub is : IsKeyOf node bytes
  pub found : following_at g d n ≡ Some node.subscripts

module _ (n : Node) (d : Direction) (g : Globals) (held : AreHeld g) (low high : List ℕ) (bounds : BoundsFollowing d n low high) where
  stored : All IsStored (in_turn d (keys g))
  stored = stored_in_turn d (keys g) (all_stored g held)

  nearest : nearest_key d g low high ≡ option_map key (find (meets d n) (in_turn d (keys g)))
  nearest =
      nearest_is d g low high
      ∙ ap (option_map key)
      (found_alike IsStored (λ (m : Node). is_between low high (key m)) (meets d n) bounds (in_turn d (keys g)) stored)

  pub none_follows : None ≡ nearest_key d g low high → None ≡ following_at g d n
  none_follows e = here (find (meets d n) (in_turn d (keys g))) (e ∙ nearest) ∙ sym (found_at d n g)
    where
      here : (o : Option Node) → None ≡ option_map key o → None ≡ option_map (λ (m : Node). m.subscripts) o
      here None e = refl
      here (Some m) e = absurd (cc)

  pub one_follows : (bytes : List ℕ) → Some bytes ≡ nearest_key d g low high → IsFollowing n d g bytes
  one_follows bytes e = here (find (meets d n) (in_turn d (keys g))) refl (e ∙ nearest)
    where
      here : (o : Option Node) → find (meets d n) (in_turn d (keys g)) ≡ o → Some bytes ≡ option_map key o
          → IsFollowing n d g bytes
      here None is e = absurd (cc)
      here (Some m) is e =
          let one = found_one IsStored (meets d n) (in_turn d (keys g)) stored m is in
          let same : bytes ≡ key m = cc in
          record { node = m; is = (one.0, sym same); found = found_at d n g ∙ ap (option_map (λ (m : Node). m.subscripts)) is }
