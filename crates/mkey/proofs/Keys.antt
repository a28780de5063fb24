-- SPDX-License-Identifier: Apache-2.0
-- Bounds of the keys of nodes.
use Rattle.mkey.proofs.KeyWords.{ℕ, ◌≡◌, ◌++◌, ◌∙◌, List, [], ◌∷◌, sym, subst, append_assoc, ap, key_bytes, text_bytes, subscripts_bytes, children_start}
use Rattle.mkey.proofs.KeyWords.{IsStored, BeginsWith, IsWithin, IsAncestor, significant_digits, subtrees_are_ranges, descendants_are_ranges}
use Rattle.mkey.proofs.KeyWords.{keys_of_subtrees_begin_alike, BoundsKeysOf, none_empty, Text, Node}

-- a key, put together from its parts
pub joined : (account name : Text) (subs : List Text) (names all : List ℕ) → names ≡ text_bytes account ++ text_bytes name → all ≡ names ++ subscripts_bytes significant_digits subs
    → key_bytes significant_digits (record { account = account; name = name; subscripts = subs }) ≡ all
joined account name subs names all e f =
    sym (f ∙ ap (λ b. b ++ subscripts_bytes significant_digits subs) e ∙ append_assoc (text_bytes account) (text_bytes name) (subscripts_bytes significant_digits subs))

pub bounds_subtree : (a : Node) (high : List ℕ) → IsStored a → high ≡ key_bytes significant_digits a ++ 3 ∷ [] → BoundsKeysOf (IsWithin a) (key_bytes significant_digits a) high
bounds_subtree a high stored e =
    subst (BoundsKeysOf (IsWithin a) (key_bytes significant_digits a)) (sym e)
    (λ n stored_n. subtrees_are_ranges significant_digits a n (none_empty a stored) (none_empty n stored_n))

pub bounds_beginnings : (a : Node) (high : List ℕ) → IsStored a → high ≡ key_bytes significant_digits a ++ 3 ∷ [] → BoundsKeysOf (λ n. BeginsWith (key_bytes significant_digits n) (key_bytes significant_digits a)) (key_bytes significant_digits a) high
bounds_beginnings a high stored e = λ n stored_n.
    let begins = keys_of_subtrees_begin_alike significant_digits a n (none_empty a stored) (none_empty n stored_n) in
    let within = bounds_subtree a high stored e n stored_n in
    (λ is. begins.1 (within.0 is), λ is. within.1 (begins.0 is))

pub bounds_below : (a : Node) (low high : List ℕ) → IsStored a → low ≡ key_bytes significant_digits a ++ 1 ∷ [] → high ≡ key_bytes significant_digits a ++ 3 ∷ [] → BoundsKeysOf (IsAncestor a) low high
bounds_below a low high stored e f =
    subst (λ l. BoundsKeysOf (IsAncestor a) l high) (sym e)
    (subst (BoundsKeysOf (IsAncestor a) (children_start (key_bytes significant_digits a))) (sym f)
    (λ n stored_n. descendants_are_ranges significant_digits a n (none_empty a stored) (none_empty n stored_n)))
