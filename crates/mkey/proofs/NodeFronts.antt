-- SPDX-License-Identifier: Apache-2.0
-- Keys of nodes that begin alike.
use Rattle.mkey.proofs.KeyWords.{ℕ, ◌≡◌, Bool, true, nat_eq, ◌&&◌, Option, None, List, ◌++◌, length, drop, refl, sym, ◌∙◌, ap, bytes_decides, starts_with}
use Rattle.mkey.proofs.KeyWords.{drop-append_seam, Decides-eqb, starts_is, is_node_within, is_beside, subscripts_bytes, key_bytes, NoneEmpty}
use Rattle.mkey.proofs.KeyWords.{significant_digits, text_eq, is_within, child_of, keys_of_subtrees_begin_alike, child_under, false, if◌then◌else◌, Text, Node}
use Rattle.mkey.proofs.KeyWords.{all_true}
use Rattle.mspec.proofs.NodesWithin.{of_within}
use Rattle.mkey.proofs.KeyWalks.{key_of_more}
use Rattle.mkey.proofs.SubsKeys.{same_truth, split_within}

abbrev key : Node → List ℕ
key = key_bytes significant_digits

pub both_true : (a b : Bool) → (a && b) ≡ true → (a ≡ true) × (b ≡ true)
both_true true b e = (refl, e)
both_true false b e = absurd (cc)

-- ---- one node within another

-- a node is another, or is below it, exactly if the test says so
pub record IsSplit (n m : Node) : Type 0 where
  pub account : n.account ≡ m.account
  pub name : n.name ≡ m.name
  pub subscripts : m.subscripts ≡ n.subscripts ++ drop (length n.subscripts) m.subscripts

pub split_node : (n m : Node) → is_node_within n m ≡ true → IsSplit n m
split_node n m e =
    let first = both_true (text_eq n.account m.account) (text_eq n.name m.name && is_within n.subscripts m.subscripts) e in
    let rest = both_true (text_eq n.name m.name) (is_within n.subscripts m.subscripts) first.1 in
    record { account = (bytes_decides n.account m.account).0 first.0; name = (bytes_decides n.name m.name).0 rest.0; subscripts = split_within n.subscripts m.subscripts rest.1 }

pub joined_node : (n m : Node) (more : List Text) → n.account ≡ m.account → n.name ≡ m.name → m.subscripts ≡ n.subscripts ++ more → is_node_within n m ≡ true
joined_node n m more account name e =
    all_true (text_eq n.account m.account) (text_eq n.name m.name) (is_within n.subscripts m.subscripts) ((bytes_decides n.account m.account).1 account) ((bytes_decides n.name m.name).1 name)
    ((starts_is bytes_decides m.subscripts n.subscripts (is_within n.subscripts m.subscripts) refl).1 more e)

-- ---- the bytes of their keys

-- the key of a node within another is the other's with the subscripts after it
pub key_within : (n m : Node) → is_node_within n m ≡ true → key m ≡ key n ++ subscripts_bytes significant_digits (drop (length n.subscripts) m.subscripts)
key_within n m e =
    let split = split_node n m e in
    (λ i. key (record { account = sym split.account i; name = sym split.name i; subscripts = split.subscripts i }))
    ∙ key_of_more n n.subscripts (drop (length n.subscripts) m.subscripts)

pub key_behind : (n m : Node) → is_node_within n m ≡ true → drop (length (key n)) (key m) ≡ subscripts_bytes significant_digits (drop (length n.subscripts) m.subscripts)
key_behind n m e = ap (drop (length (key n))) (key_within n m e) ∙ drop-append_seam (key n) (subscripts_bytes significant_digits (drop (length n.subscripts) m.subscripts))

-- a key begins with another's exactly if its node is within the other
pub starts_node : (n m : Node) → NoneEmpty n.subscripts → NoneEmpty m.subscripts → (r : Bool) → r ≡ starts_with nat_eq (key m) (key n) → r ≡ is_node_within n m
starts_node n m some_n some_m r e =
    let of_bytes = starts_is Decides-eqb (key m) (key n) r e in
    same_truth r (is_node_within n m)
    (λ t. of_within n m ((keys_of_subtrees_begin_alike significant_digits n m some_n some_m).0 (drop (length (key n)) (key m), of_bytes.0 t)))
    (λ t. of_bytes.1 (subscripts_bytes significant_digits (drop (length n.subscripts) m.subscripts)) (key_within n m t))

-- ---- the subscript of one after the other

pub within_parts : (n m : Node) → is_node_within n m ≡ true → (is_beside n m ≡ true) × (is_within n.subscripts m.subscripts ≡ true)
within_parts n m e = apart (text_eq n.account m.account) (text_eq n.name m.name) (is_within n.subscripts m.subscripts) e
  where
    apart : (a b c : Bool) → (a && (b && c)) ≡ true → ((a && b) ≡ true) × (c ≡ true)
    apart true true c e = (refl, e)
    apart true false c e = absurd (cc)
    apart false b c e = absurd (cc)

pub child_within : (n m : Node) → is_node_within n m ≡ true → child_under n m ≡ child_of n.subscripts m.subscripts
child_within n m e = ap (λ b. if b then child_of n.subscripts m.subscripts else None) (within_parts n m e).0

pub child_without : (n m : Node) → is_node_within n m ≡ false → child_under n m ≡ None
child_without n m e = apart (text_eq n.account m.account) (text_eq n.name m.name) (is_within n.subscripts m.subscripts) _ e
  where
    apart : (a b c : Bool) (x : Option Text) → (a && (b && c)) ≡ false → (if a && b then (if c then x else None) else None) ≡ None
    apart true true true x e = absurd (cc)
    apart true true false x e = refl
    apart true false c x e = refl
    apart false b c x e = refl
