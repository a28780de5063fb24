-- SPDX-License-Identifier: Apache-2.0
-- The bounds of the keys among which the next node of a walk is found.
use Rattle.mglobal.proofs.GlobalWords.{arith, ℕ, ◌≡◌, ◌<◌, Bool, true, false, ◌&&◌, ◌||◌, None, List, [], ◌∷◌, ◌++◌, length, refl, sym, ◌∙◌, ap, append_assoc}
use Rattle.mglobal.proofs.GlobalWords.{append-nil, if◌then◌else◌, is_between, is_beside, subscript_bytes, children_start, subtree_end, AreSubscripts, IsStored}
use Rattle.mglobal.proofs.GlobalWords.{NoneEmpty, Text, Node, significant_digits, Direction, Forward, Backward, is_before, is_below, child_of, front, last}
use Rattle.mglobal.proofs.GlobalWords.{none_empty, passes, child_under, below_is, not_empty, split_last, is_onward, BoundsOnward}
use Rattle.std.proofs.lemmas.List.Concat.{flat_map-append}
use Rattle.mglobal.proofs.Between.{key, bytes, keys_between, all_between, behind_between, before_between}

-- the node below n with one subscript more
abbrev pub child_at : Node → Text → Node
child_at n x = record { account = n.account; name = n.name; subscripts = n.subscripts ++ x ∷ [] }

pub some_each : (xs : List Text) → AreSubscripts xs → NoneEmpty xs
some_each xs subs = λ k d inside. (subs.each k d inside).some

key_child : (n : Node) (x : Text) → key (child_at n x) ≡ key n ++ subscript_bytes significant_digits x
key_child n x = grind (arith, bytes, subscript_bytes, flat_map-append, append-nil, append_assoc)

-- ---- all that is below

below_child : (n m : Node) → passes (λ c. true) (child_under n m) ≡ (is_beside n m && is_below n.subscripts m.subscripts)
below_child n m = here (is_beside n m)
  where
    here : (b : Bool) → passes (λ c. true) (if b then child_of n.subscripts m.subscripts else None) ≡ (b && is_below n.subscripts m.subscripts)
    here true = below_is n.subscripts m.subscripts
    here false = refl

pub bounds_below : (n : Node) → IsStored n → (low high : List ℕ) → low ≡ children_start (key n) → high ≡ subtree_end (key n) → (m : Node) → IsStored m → is_between low high (key m) ≡ (is_beside n m && is_below n.subscripts m.subscripts)
bounds_below n stored low high from to m is =
    (λ i. is_between (from i) (to i) (key m))
    ∙ keys_between n m (none_empty n stored) (none_empty m is) (1 ∷ []) (3 ∷ []) (λ c. true) (all_between (λ c. true) (λ s some. refl)) ∙ below_child n m

-- ---- on one side of a subscript

module _ (n : Node) (some_n : NoneEmpty n.subscripts) (x : Text) (low high : List ℕ) where
  every : (d : Direction) (x : Text) → x ≡ [] → (s : Text) → 0 < length s → is_onward d x s ≡ true
  every d x h s e = grind arith

  pub bounds_all : (d : Direction) → x ≡ [] → low ≡ children_start (key n) → high ≡ subtree_end (key n) → BoundsOnward d n x low high
  bounds_all d none from to m is =
      (λ i. is_between (from i) (to i) (key m))
      ∙ keys_between n m some_n (none_empty m is) (1 ∷ []) (3 ∷ []) (is_onward d x) (all_between (is_onward d x) (every d x none))

  pub bounds_behind : 0 < length x → low ≡ subtree_end (key (child_at n x)) → high ≡ subtree_end (key n) → BoundsOnward Forward n x low high
  bounds_behind some from to m is =
      let low_is = from ∙ ap (λ b. b ++ 3 ∷ []) (key_child n x) ∙ append_assoc (key n) (subscript_bytes significant_digits x) (3 ∷ []) in
      (λ i. is_between (low_is i) (to i) (key m))
      ∙ keys_between n m some_n (none_empty m is) (subscript_bytes significant_digits x ++ 3 ∷ []) (3 ∷ []) (is_before x) (behind_between x some)

  pub bounds_before : 0 < length x → low ≡ children_start (key n) → high ≡ key (child_at n x) → BoundsOnward Backward n x low high
  bounds_before some from to m is =
      let high_is = to ∙ key_child n x in
      (λ i. is_between (from i) (high_is i) (key m))
      ∙ keys_between n m some_n (none_empty m is) (1 ∷ []) (subscript_bytes significant_digits x) (λ c. is_before c x) (before_between x some)
      ∙ ap (λ b. passes (λ c. b || is_before c x) (child_under n m)) (sym (not_empty x some))

-- the node of all subscripts is the child of that of those in front
pub whole_is : (account name : Text) (subs : List Text) (n : Node) → 0 < length subs → n ≡ record { account = account; name = name; subscripts = front subs }
    → record { account = account; name = name; subscripts = subs } ≡ child_at n (last subs)
whole_is account name subs n some e = ap (λ xs. record { account = account; name = name; subscripts = xs }) (split_last subs some) ∙ ap (λ m. child_at m (last subs)) (sym e)
