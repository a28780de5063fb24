-- SPDX-License-Identifier: Apache-2.0
-- The order of texts, of lists of subscripts and of nodes is total, and in it only equal values tie.
use Rattle.mspec.proofs.SpecWords.{ℕ, ◌≡◌, Bool, true, false, cond, Option, Some, None, [], ◌∷◌, refl, sym, ◌∙◌, ap, subst, ℤ, pos, option_and_then, nat_eq}
use Rattle.mspec.proofs.SpecWords.{IsTotalOrder, pointwise, slice_cmp, lists_total, nat_list_cmp_total, bytes_decides, Ordering, Less, Equal, Greater}
use Rattle.mspec.proofs.SpecWords.{IsAntisymmetric, int_cmp-IsAntisymmetric, slice_cmp-IsAntisymmetric, nat_cmp, int_cmp, on, then_cmp, ordering_then}
use Rattle.mspec.proofs.SpecWords.{nat_cmp_total, int_cmp_total, on_total, then_total, numeric_value, number_text, IsCanonical, where_text, canonical_value}
use Rattle.mspec.proofs.SpecWords.{Place, Empty, Numeric, Other, place_by, place, place_cmp, text_cmp, subscripts_cmp, node_cmp, CanonicalValueIsTold}
use Rattle.mspec.proofs.SpecWords.{NodesAreOrdered, MatchOption, Text, Node}
use Rattle.mspec.proofs.Basics.{texts_exact}

-- ---- the canonical value

-- a text that has a canonical value is the text of this number
pub canonical_of_value : (kept : ℕ) (s : Text) (u : ℤ) → canonical_value kept s ≡ Some u → (numeric_value kept s ≡ Some u) × (number_text u ≡ s)
unfolding canonical_value
canonical_of_value kept s u e = read (numeric_value kept s) refl e
  where
    here : (v : ℤ) (b : Bool) → pointwise nat_eq (number_text v) s ≡ b → numeric_value kept s ≡ Some v → cond b (Some v) None ≡ Some u → (numeric_value kept s ≡ Some u) × (number_text u ≡ s)
    here v true same value e =
        let one : v ≡ u = cc in
        (value ∙ e, ap number_text (sym one) ∙ (bytes_decides (number_text v) s).0 same)
    here v false other value e = absurd (cc)

    read : (o : Option ℤ) → numeric_value kept s ≡ o → option_and_then (where_text s) o ≡ Some u → (numeric_value kept s ≡ Some u) × (number_text u ≡ s)
    read None value e = absurd (cc)
    read (Some v) value e = here v (pointwise nat_eq (number_text v) s) refl value e

-- a canonical text has its number as its canonical value
pub value_of_canonical : (kept : ℕ) (s : Text) (canonical : IsCanonical kept s) → canonical_value kept s ≡ Some canonical.number
unfolding canonical_value
value_of_canonical kept s canonical =
    ap (option_and_then (where_text s)) canonical.value
    ∙ ap (λ b. cond b (Some canonical.number) None) ((bytes_decides (number_text canonical.number) s).1 canonical.text)

-- a text without a canonical value is not canonical
pub none_of_other : (kept : ℕ) (s : Text) → canonical_value kept s ≡ None → IsCanonical kept s → ⊥
none_of_other kept s none canonical = let some = value_of_canonical kept s canonical in absurd (cc)

pub canonical_value_is_told : CanonicalValueIsTold
canonical_value_is_told kept s = here (canonical_value kept s) refl
  where
    here : (o : Option ℤ) → canonical_value kept s ≡ o → MatchOption o (IsCanonical kept s → ⊥) (λ u. (numeric_value kept s ≡ Some u) × (number_text u ≡ s))
    here None e = none_of_other kept s e
    here (Some u) e = canonical_of_value kept s u e

-- ---- places

abbrev rank : Place → ℕ
rank Empty = 0
rank (Numeric u) = 1
rank (Other s) = 2

abbrev value : Place → ℤ
value Empty = pos 0
value (Numeric u) = u
value (Other s) = pos 0

abbrev letters : Place → Text
letters Empty = []
letters (Numeric u) = []
letters (Other s) = s

abbrev by_parts : Place → Place → Ordering
by_parts = then_cmp (on rank nat_cmp) (then_cmp (on value int_cmp) (on letters (slice_cmp nat_cmp)))

then_Equal : (o : Ordering) → ordering_then o Equal ≡ o
then_Equal Less = refl
then_Equal Equal = refl
then_Equal Greater = refl

same_parts : (p q : Place) → by_parts p q ≡ place_cmp p q
same_parts Empty Empty = refl
same_parts Empty (Numeric v) = refl
same_parts Empty (Other t) = refl
same_parts (Numeric u) Empty = refl
same_parts (Numeric u) (Numeric v) = then_Equal (int_cmp u v)
same_parts (Numeric u) (Other t) = refl
same_parts (Other s) Empty = refl
same_parts (Other s) (Numeric v) = refl
same_parts (Other s) (Other t) = refl

place_cmp_total : IsTotalOrder place_cmp
place_cmp_total =
    subst IsTotalOrder (λ i p q. same_parts p q i)
    (then_total (on_total rank nat_cmp_total) (then_total (on_total value int_cmp_total) (on_total letters nat_list_cmp_total)))

place_cmp_exact : IsAntisymmetric place_cmp
place_cmp_exact Empty Empty e = refl
place_cmp_exact Empty (Numeric v) e = absurd (cc)
place_cmp_exact Empty (Other t) e = absurd (cc)
place_cmp_exact (Numeric u) Empty e = absurd (cc)
place_cmp_exact (Numeric u) (Numeric v) e = ap Numeric (int_cmp-IsAntisymmetric u v e)
place_cmp_exact (Numeric u) (Other t) e = absurd (cc)
place_cmp_exact (Other s) Empty e = absurd (cc)
place_cmp_exact (Other s) (Numeric v) e = absurd (cc)
place_cmp_exact (Other s) (Other t) e = ap Other (texts_exact s t e)

-- the text at a place
abbrev text_at : Place → Text
text_at Empty = []
text_at (Numeric u) = number_text u
text_at (Other s) = s

text_at-place : (kept : ℕ) (s : Text) → text_at (place kept s) ≡ s
text_at-place kept [] = refl
text_at-place kept (c ∷ s) = here (canonical_value kept (c ∷ s)) refl
  where
    here : (o : Option ℤ) → canonical_value kept (c ∷ s) ≡ o → text_at (place_by (c ∷ s) o) ≡ c ∷ s
    here None e = refl
    here (Some u) e = (canonical_of_value kept (c ∷ s) u e).1

-- ---- the orders

pub text_cmp_total : (kept : ℕ) → IsTotalOrder (text_cmp kept)
text_cmp_total kept = on_total (place kept) place_cmp_total

pub text_cmp_exact : (kept : ℕ) → IsAntisymmetric (text_cmp kept)
text_cmp_exact kept s t e =
    sym (text_at-place kept s) ∙ ap text_at (place_cmp_exact (place kept s) (place kept t) e) ∙ text_at-place kept t

pub subscripts_cmp_total : (kept : ℕ) → IsTotalOrder (subscripts_cmp kept)
subscripts_cmp_total kept = lists_total (text_cmp_total kept)

pub subscripts_cmp_exact : (kept : ℕ) → IsAntisymmetric (subscripts_cmp kept)
subscripts_cmp_exact kept = slice_cmp-IsAntisymmetric (text_cmp_exact kept)

pub node_cmp_total : (kept : ℕ) → IsTotalOrder (node_cmp kept)
node_cmp_total kept =
    then_total (on_total (λ n. n.account) nat_list_cmp_total)
    (then_total (on_total (λ n. n.name) nat_list_cmp_total) (on_total (λ n. n.subscripts) (subscripts_cmp_total kept)))

-- two that tie in each of two orders
pub both_Equal : (o p : Ordering) → ordering_then o p ≡ Equal → (o ≡ Equal) × (p ≡ Equal)
both_Equal Less p e = absurd (cc)
both_Equal Equal p e = (refl, e)
both_Equal Greater p e = absurd (cc)

-- nodes of the same parts
pub same_node : (a b : Node) → a.account ≡ b.account → a.name ≡ b.name → a.subscripts ≡ b.subscripts → a ≡ b
same_node a b account name subscripts = λ i. record { account = account i; name = name i; subscripts = subscripts i }

pub node_cmp_exact : (kept : ℕ) → IsAntisymmetric (node_cmp kept)
node_cmp_exact kept a b e =
    let first = both_Equal (slice_cmp nat_cmp a.account b.account) _ e in
    let rest = both_Equal (slice_cmp nat_cmp a.name b.name) _ first.1 in
    same_node a b (texts_exact a.account b.account first.0) (texts_exact a.name b.name rest.0) (subscripts_cmp_exact kept a.subscripts b.subscripts rest.1)

pub nodes_are_ordered : NodesAreOrdered
nodes_are_ordered kept = (
  record { total = text_cmp_total kept; exact = text_cmp_exact kept },
  record { total = subscripts_cmp_total kept; exact = subscripts_cmp_exact kept },
  record { total = node_cmp_total kept; exact = node_cmp_exact kept },
)
