-- SPDX-License-Identifier: Apache-2.0
-- A key begins with the keys of its node's ancestors and with no others, and ranges of keys are subtrees.
use Rattle.mspec.proofs.SpecWords.{ℕ, ◌≡◌, ◌⊎◌, inl, inr, ◌<◌, true, false, List, [], ◌∷◌, ◌++◌, length, refl, sym, ◌∙◌, ap, subst, arith, append_assoc}
use Rattle.mspec.proofs.SpecWords.{slice_cmp, nat_list_cmp_total, nat_cmp_is, Less, Equal, Greater, nat_cmp, ordering_then, is_le, cases_order, tied_itself}
use Rattle.mspec.proofs.SpecWords.{nat_cmp_total, All-head, All-tail, canonical_value, text_cmp, IsAncestor, text_bytes, subscript_bytes, subscripts_bytes}
use Rattle.mspec.proofs.SpecWords.{local_bytes, key_bytes, children_start, subtree_end, NoneEmpty, IsWithin, IsBetween, KeysAreInjective}
use Rattle.mspec.proofs.SpecWords.{KeysOfSubtreesBeginAlike, SubtreesAreRanges, DescendantsAreRanges, IsLocalWithin, LocalSubtreesAreRanges}
use Rattle.mspec.proofs.SpecWords.{LocalDescendantsAreRanges, append-nil, Text, Node}
use Rattle.std.proofs.lemmas.List.Concat.{flat_map-append}
use Rattle.mspec.specs.KeyLaws.{BeginsWith}
use Rattle.mspec.proofs.NodeOrders.{text_cmp_exact, node_cmp_exact, both_Equal, same_node}
use Rattle.mspec.proofs.KeyOrders.{text_order, subscript_order, HasTag, tag_of, key_order}
use Rattle.mspec.proofs.Basics.{texts_exact}

-- ---- what stands in front

-- equal bytes compare as equal
pub same_bytes : (x y : List ℕ) → x ≡ y → slice_cmp nat_cmp x y ≡ Equal
same_bytes x y e = ap (slice_cmp nat_cmp x) (sym e) ∙ tied_itself nat_list_cmp_total x

-- a text's bytes end by themselves
pub text_split : (s t x y : List ℕ) → text_bytes s ++ x ≡ text_bytes t ++ y → (s ≡ t) × (x ≡ y)
text_split s t x y e =
    let both = both_Equal (slice_cmp nat_cmp s t) (slice_cmp nat_cmp x y) (sym (text_order s t x y) ∙ same_bytes _ _ e) in
    (texts_exact s t both.0, texts_exact x y both.1)

pub subscript_split : (kept : ℕ) (s t : Text) (x y : List ℕ) → 0 < length s → 0 < length t → subscript_bytes kept s ++ x ≡ subscript_bytes kept t ++ y → (s ≡ t) × (x ≡ y)
subscript_split kept s t x y some_s some_t e =
    let both = both_Equal (text_cmp kept s t) (slice_cmp nat_cmp x y) (sym (subscript_order kept s t x y some_s some_t) ∙ same_bytes _ _ e) in
    (text_cmp_exact kept s t both.0, texts_exact x y both.1)

-- the subscripts after others, of which the bytes are given
pub record IsBehind (kept : ℕ) (front : List Text) (rest : List ℕ) (all : List Text) : Type 0 where
  pub more : List Text
  pub subscripts : all ≡ front ++ more
  pub bytes : rest ≡ subscripts_bytes kept more

pub subscripts_split : (kept : ℕ) (xs ys : List Text) (rest : List ℕ) → NoneEmpty xs → NoneEmpty ys → subscripts_bytes kept xs ++ rest ≡ subscripts_bytes kept ys → IsBehind kept xs rest ys
subscripts_split kept [] ys rest all_x all_y e = record { more = ys; subscripts = refl; bytes = e }
subscripts_split kept (s ∷ xs) [] rest all_x all_y e =
    let tag = tag_of s (canonical_value kept s) in
    let bytes : tag.tag ∷ ((tag.rest ++ subscripts_bytes kept xs) ++ rest) ≡ [] = ap (λ b. (b ++ subscripts_bytes kept xs) ++ rest) (sym tag.is) ∙ e in
    absurd (cc)
subscripts_split kept (s ∷ xs) (t ∷ ys) rest all_x all_y e =
    let first = subscript_split kept s t (subscripts_bytes kept xs ++ rest) (subscripts_bytes kept ys) (All-head (λ s. 0 < length s) s xs all_x) (All-head (λ s. 0 < length s) t ys all_y)
    (sym (append_assoc (subscript_bytes kept s) (subscripts_bytes kept xs) rest) ∙ e) in
    let behind = subscripts_split kept xs ys rest (All-tail (λ s. 0 < length s) s xs all_x) (All-tail (λ s. 0 < length s) t ys all_y) first.1 in
    record { more = behind.more; subscripts = λ i. sym first.0 i ∷ behind.subscripts i; bytes = behind.bytes }

-- the same of a name and subscripts, and of a node
pub record IsLocalBehind (kept : ℕ) (a : Text) (xs : List Text) (rest : List ℕ) (b : Text) (ys : List Text) : Type 0 where
  pub name : a ≡ b
  pub behind : IsBehind kept xs rest ys

local_split : (kept : ℕ) (a b : Text) (xs ys : List Text) (rest : List ℕ) → NoneEmpty xs → NoneEmpty ys → local_bytes kept b ys ≡ local_bytes kept a xs ++ rest → IsLocalBehind kept a xs rest b ys
local_split kept a b xs ys rest all_x all_y e =
    let first = text_split a b (subscripts_bytes kept xs ++ rest) (subscripts_bytes kept ys) (sym (append_assoc (text_bytes a) (subscripts_bytes kept xs) rest) ∙ sym e) in
    record { name = first.0; behind = subscripts_split kept xs ys rest all_x all_y first.1 }

pub record IsNodeBehind (kept : ℕ) (a : Node) (rest : List ℕ) (b : Node) : Type 0 where
  pub account : a.account ≡ b.account
  pub local : IsLocalBehind kept a.name a.subscripts rest b.name b.subscripts

key_split : (kept : ℕ) (a b : Node) (rest : List ℕ) → NoneEmpty a.subscripts → NoneEmpty b.subscripts → key_bytes kept b ≡ key_bytes kept a ++ rest → IsNodeBehind kept a rest b
key_split kept a b rest all_a all_b e =
    let A : List ℕ = local_bytes kept a.name a.subscripts in
    let B : List ℕ = local_bytes kept b.name b.subscripts in
    let first = text_split a.account b.account (A ++ rest) B (sym (append_assoc (text_bytes a.account) A rest) ∙ sym e) in
    record { account = first.0; local = local_split kept a.name b.name a.subscripts b.subscripts rest all_a all_b (sym first.1) }

-- ---- the bytes of what is below

-- more subscripts come after the others
subscripts_join : (kept : ℕ) (xs more : List Text) → subscripts_bytes kept (xs ++ more) ≡ subscripts_bytes kept xs ++ subscripts_bytes kept more
subscripts_join kept xs more = flat_map-append (subscript_bytes kept) xs more

local_join : (kept : ℕ) (a b : Text) (xs ys more : List Text) → a ≡ b → ys ≡ xs ++ more → local_bytes kept b ys ≡ local_bytes kept a xs ++ subscripts_bytes kept more
local_join kept a b xs ys more same e =
    ap (λ n. text_bytes n ++ subscripts_bytes kept ys) (sym same)
    ∙ ap (λ ss. text_bytes a ++ subscripts_bytes kept ss) e
    ∙ ap (λ bytes. text_bytes a ++ bytes) (subscripts_join kept xs more)
    ∙ sym (append_assoc (text_bytes a) (subscripts_bytes kept xs) (subscripts_bytes kept more))

key_join : (kept : ℕ) (a b : Node) (more : List Text) → a.account ≡ b.account → a.name ≡ b.name → b.subscripts ≡ a.subscripts ++ more → key_bytes kept b ≡ key_bytes kept a ++ subscripts_bytes kept more
key_join kept a b more account name e =
    ap (λ n. text_bytes n ++ local_bytes kept b.name b.subscripts) (sym account)
    ∙ ap (λ bytes. text_bytes a.account ++ bytes) (local_join kept a.name b.name a.subscripts b.subscripts more name e)
    ∙ sym (append_assoc (text_bytes a.account) (local_bytes kept a.name a.subscripts) (subscripts_bytes kept more))

-- ---- keys of a subtree begin alike

pub keys_are_injective : KeysAreInjective
keys_are_injective kept a b all_a all_b e = node_cmp_exact kept a b (sym (key_order kept a b all_a all_b) ∙ same_bytes _ _ e)

-- a node with more subscripts, or none, after those of another
pub within : (a b : Node) (more : List Text) → a.account ≡ b.account → a.name ≡ b.name → b.subscripts ≡ a.subscripts ++ more → IsWithin a b
within a b [] account name e = inl (same_node a b account name (sym (append-nil a.subscripts) ∙ sym e))
within a b (s ∷ more) account name e = inr (record { account = account; name = name; longer = (s, more, e) })

begins_within : (kept : ℕ) (a b : Node) → NoneEmpty a.subscripts → NoneEmpty b.subscripts → BeginsWith (key_bytes kept b) (key_bytes kept a) → IsWithin a b
begins_within kept a b all_a all_b begins =
    let split = key_split kept a b begins.0 all_a all_b begins.1 in
    within a b split.local.behind.more split.account split.local.name split.local.behind.subscripts

within_begins : (kept : ℕ) (a b : Node) → IsWithin a b → (more : List Text) × (key_bytes kept b ≡ key_bytes kept a ++ subscripts_bytes kept more)
within_begins kept a b (inl same) = ([], ap (key_bytes kept) (sym same) ∙ sym (append-nil (key_bytes kept a)))
within_begins kept a b (inr above) = (above.longer.0 ∷ above.longer.1, key_join kept a b (above.longer.0 ∷ above.longer.1) above.account above.name above.longer.2)

pub keys_of_subtrees_begin_alike : KeysOfSubtreesBeginAlike
keys_of_subtrees_begin_alike kept a b all_a all_b = (
  begins_within kept a b all_a all_b,
  λ is. let below = within_begins kept a b is in (subscripts_bytes kept below.0, below.1),
)

-- ---- ranges

-- what two lists begin with alike does not order them
same_front : (k x y : List ℕ) → slice_cmp nat_cmp (k ++ x) (k ++ y) ≡ slice_cmp nat_cmp x y
same_front [] x y = refl
same_front (c ∷ k) x y = ap (λ o. ordering_then o (slice_cmp nat_cmp (k ++ x) (k ++ y))) (tied_itself nat_cmp_total c) ∙ same_front k x y

between_front : (k low high rest : List ℕ) → IsBetween low high rest → IsBetween (k ++ low) (k ++ high) (k ++ rest)
between_front k low high rest is = record { from = ap is_le (same_front k low rest) ∙ is.from; below = same_front k rest high ∙ is.below }

-- what stands between two lists that begin alike begins so too
between_rest : (k low high x : List ℕ) → IsBetween (k ++ low) (k ++ high) x → (rest : List ℕ) × (x ≡ k ++ rest) × IsBetween low high rest
between_rest [] low high x is = (x, refl, is)
between_rest (c ∷ k) low high [] is = let no : false ≡ true = is.from in absurd (cc)
between_rest (c ∷ k) low high (d ∷ x) is = by_first (between_rest k low high x) (cases_order c d)
  where
    by_first : (IsBetween (k ++ low) (k ++ high) x → (rest : List ℕ) × (x ≡ k ++ rest) × IsBetween low high rest) → (c ≡ d) ⊎ ((c < d) ⊎ (d < c)) → (rest : List ℕ) × (d ∷ x ≡ (c ∷ k) ++ rest) × IsBetween low high rest
    by_first again (inl same) =
        let here : nat_cmp c d ≡ Equal = sym (nat_cmp_is c d Equal same) in
        let back : nat_cmp d c ≡ Equal = sym (nat_cmp_is d c Equal (sym same)) in
        let from : is_le (slice_cmp nat_cmp (k ++ low) x) ≡ true = ap (λ o. is_le (ordering_then o (slice_cmp nat_cmp (k ++ low) x))) (sym here) ∙ is.from in
        let below : slice_cmp nat_cmp x (k ++ high) ≡ Less = ap (λ o. ordering_then o (slice_cmp nat_cmp x (k ++ high))) (sym back) ∙ is.below in
        let more = again (record { from = from; below = below }) in
        (more.0, (λ i. sym same i ∷ more.1 i), more.2)
    by_first again (inr (inl less)) =
        let no : Greater ≡ Less = ap (λ o. ordering_then o (slice_cmp nat_cmp x (k ++ high))) (nat_cmp_is d c Greater less) ∙ is.below in
        absurd (cc)
    by_first again (inr (inr more)) =
        let no : false ≡ true = ap (λ o. is_le (ordering_then o (slice_cmp nat_cmp (k ++ low) x))) (nat_cmp_is c d Greater more) ∙ is.from in
        absurd (cc)

-- the bytes of subscripts stand before 3, and from 1 on if there are some
tagged_below : (bytes x : List ℕ) → HasTag bytes → IsBetween (1 ∷ []) (3 ∷ []) (bytes ++ x)
tagged_below bytes x tag = subst (λ b. IsBetween (1 ∷ []) (3 ∷ []) (b ++ x)) (sym tag.is) (by_tag tag.tag (tag.rest ++ x) tag.some tag.few)
  where
    last : (x : List ℕ) → is_le (slice_cmp nat_cmp [] x) ≡ true
    last [] = refl
    last (c ∷ x) = refl

    by_tag : (t : ℕ) (y : List ℕ) → 0 < t → t < 3 → IsBetween (1 ∷ []) (3 ∷ []) (t ∷ y)
    by_tag t y some few =
        let below : slice_cmp nat_cmp (t ∷ y) (3 ∷ []) ≡ Less = ap (λ o. ordering_then o (slice_cmp nat_cmp y [])) (sym (nat_cmp_is t 3 Less few)) in
        record { from = first (cases_order 1 t); below = below }
      where
        first : (1 ≡ t) ⊎ ((1 < t) ⊎ (t < 1)) → is_le (slice_cmp nat_cmp (1 ∷ []) (t ∷ y)) ≡ true
        first (inl same) = ap (λ o. is_le (ordering_then o (slice_cmp nat_cmp [] y))) (sym (nat_cmp_is 1 t Equal same)) ∙ last y
        first (inr (inl less)) = ap (λ o. is_le (ordering_then o (slice_cmp nat_cmp [] y))) (sym (nat_cmp_is 1 t Less less))
        first (inr (inr more)) = absurd (omega arith)

some_between : (kept : ℕ) (s : Text) (more : List Text) → IsBetween (1 ∷ []) (3 ∷ []) (subscripts_bytes kept (s ∷ more))
some_between kept s more = tagged_below (subscript_bytes kept s) (subscripts_bytes kept more) (tag_of s (canonical_value kept s))

any_between : (kept : ℕ) (more : List Text) → IsBetween [] (3 ∷ []) (subscripts_bytes kept more)
any_between kept [] = record { from = refl; below = refl }
any_between kept (s ∷ more) =
    let tag = tag_of s (canonical_value kept s) in
    record { from = ap (λ b. is_le (slice_cmp nat_cmp [] (b ++ subscripts_bytes kept more))) tag.is; below = (some_between kept s more).below }

-- a range that begins at a list itself
from_itself : (k high x : List ℕ) → IsBetween k high x → IsBetween (k ++ []) high x
from_itself k high x is = subst (λ l. IsBetween l high x) (sym (append-nil k)) is

to_itself : (k high x : List ℕ) → IsBetween (k ++ []) high x → IsBetween k high x
to_itself k high x is = subst (λ l. IsBetween l high x) (append-nil k) is

-- what is between 1 and 3 is not nothing
not_none : IsBetween (1 ∷ []) (3 ∷ []) [] → ⊥
not_none is = let no : false ≡ true = is.from in absurd (cc)

-- the keys between are those of what is below
module _ (kept : ℕ) (k : List ℕ) where
  from_children : (x : List ℕ) → IsBetween (children_start k) (subtree_end k) x → (rest : List ℕ) × (x ≡ k ++ rest) × IsBetween (1 ∷ []) (3 ∷ []) rest
  from_children x is = between_rest k (1 ∷ []) (3 ∷ []) x is

  from_key : (x : List ℕ) → IsBetween k (subtree_end k) x → BeginsWith x k
  from_key x is = let rest = between_rest k [] (3 ∷ []) x (from_itself k (subtree_end k) x is) in (rest.0, rest.1)

  to_children : (x : List ℕ) (s : Text) (more : List Text) → x ≡ k ++ subscripts_bytes kept (s ∷ more) → IsBetween (children_start k) (subtree_end k) x
  to_children x s more e = subst (IsBetween (children_start k) (subtree_end k)) (sym e) (between_front k (1 ∷ []) (3 ∷ []) (subscripts_bytes kept (s ∷ more)) (some_between kept s more))

  to_key : (x : List ℕ) (more : List Text) → x ≡ k ++ subscripts_bytes kept more → IsBetween k (subtree_end k) x
  to_key x more e =
      subst (IsBetween k (subtree_end k)) (sym e)
      (to_itself k (subtree_end k) (k ++ subscripts_bytes kept more) (between_front k [] (3 ∷ []) (subscripts_bytes kept more) (any_between kept more)))

pub subtrees_are_ranges : SubtreesAreRanges
subtrees_are_ranges kept a b all_a all_b = (
  λ is. begins_within kept a b all_a all_b (from_key kept (key_bytes kept a) (key_bytes kept b) is),
  λ is. let below = within_begins kept a b is in to_key kept (key_bytes kept a) (key_bytes kept b) below.0 below.1,
)

below_behind : (kept : ℕ) (a b : Node) (rest : List ℕ) → IsNodeBehind kept a rest b → IsBetween (1 ∷ []) (3 ∷ []) rest → IsAncestor a b
below_behind kept a b rest split is = by_more split.local.behind.more split.local.behind.subscripts split.local.behind.bytes
  where
    by_more : (more : List Text) → b.subscripts ≡ a.subscripts ++ more → rest ≡ subscripts_bytes kept more → IsAncestor a b
    by_more [] e bytes = absurd (not_none (subst (IsBetween (1 ∷ []) (3 ∷ [])) bytes is))
    by_more (s ∷ more) e bytes = record { account = split.account; name = split.local.name; longer = (s, more, e) }

pub descendants_are_ranges : DescendantsAreRanges
descendants_are_ranges kept a b all_a all_b = (
  λ is. let rest = from_children kept (key_bytes kept a) (key_bytes kept b) is in below_behind kept a b rest.0 (key_split kept a b rest.0 all_a all_b rest.1) rest.2,
  λ above. to_children kept (key_bytes kept a) (key_bytes kept b) above.longer.0 above.longer.1 (key_join kept a b (above.longer.0 ∷ above.longer.1) above.account above.name above.longer.2),
)

-- ---- the same of names with subscripts

pub local_subtrees_are_ranges : LocalSubtreesAreRanges
local_subtrees_are_ranges kept a b xs ys all_x all_y = (
  λ is.
      let begins = from_key kept (local_bytes kept a xs) (local_bytes kept b ys) is in
      let split = local_split kept a b xs ys begins.0 all_x all_y begins.1 in
      (split.behind.more, (split.name, split.behind.subscripts)),
  λ is. to_key kept (local_bytes kept a xs) (local_bytes kept b ys) is.0 (local_join kept a b xs ys is.0 is.1.0 is.1.1),
)

local_below : (kept : ℕ) (a b : Text) (xs ys : List Text) (rest : List ℕ) → IsLocalBehind kept a xs rest b ys → IsBetween (1 ∷ []) (3 ∷ []) rest → (s : Text) × (more : List Text) × IsLocalWithin a xs b ys (s ∷ more)
local_below kept a b xs ys rest split is = by_more split.behind.more split.behind.subscripts split.behind.bytes
  where
    by_more : (more : List Text) → ys ≡ xs ++ more → rest ≡ subscripts_bytes kept more → (s : Text) × (more : List Text) × IsLocalWithin a xs b ys (s ∷ more)
    by_more [] e bytes = absurd (not_none (subst (IsBetween (1 ∷ []) (3 ∷ [])) bytes is))
    by_more (s ∷ more) e bytes = (s, more, (split.name, e))

pub local_descendants_are_ranges : LocalDescendantsAreRanges
local_descendants_are_ranges kept a b xs ys all_x all_y = (
  λ is.
      let rest = from_children kept (local_bytes kept a xs) (local_bytes kept b ys) is in
      local_below kept a b xs ys rest.0 (local_split kept a b xs ys rest.0 all_x all_y rest.1) rest.2,
  λ is. to_children kept (local_bytes kept a xs) (local_bytes kept b ys) is.0 is.1 (local_join kept a b xs ys (is.0 ∷ is.1) is.2.0 is.2.1),
)
