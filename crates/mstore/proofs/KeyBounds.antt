-- SPDX-License-Identifier: Apache-2.0
-- How keys compare within bounds, and what comes next above a key.
use Rattle.mstore.proofs.Words.{arith, ◌≡◌, ℕ, zero, suc, true, false, List, [], ◌∷◌, refl, sym, ap, ◌∙◌, inl, inr, Ordering, Less, Equal, Greater}
use Rattle.mstore.proofs.Words.{and_parts, cases_Bool, true≢false, ordering_reverse, ordering_then, is_lt, is_le, nat_cmp, slice_cmp, nat_list_cmp_total}
use Rattle.mstore.proofs.Words.{ranks_by, in_bounds, is_below, slice_cmp-IsAntisymmetric, nat_cmp-IsAntisymmetric}
use Rattle.mstore.proofs.Words.{tied_itself}
use Rattle.mnodes.proofs.EntryRanges.{and_no}
use Rattle.std.proofs.lemmas.Bool.{and_from}
use Rattle.std.specs.Cmp.{IsStrictWeakOrder, nat_cmp_is, nat_cmp_total}
use Rattle.mstore.specs.Stretch.{after}

pub strict : IsStrictWeakOrder is_below
strict = ranks_by nat_list_cmp_total (λ k. k)

pub below_not : (a b : List ℕ) → is_below a b ≡ true → is_below b a ≡ false
below_not a b h = strict.one_way a b h

-- a key is not below itself
pub not_itself : (k : List ℕ) → is_below k k ≡ false
not_itself k = elim (cases_Bool (is_below k k)) [ inl t ↦ below_not k k t | inr f ↦ f ]

-- c is not above b, and b is not above a
pub above_on : (a b c : List ℕ) → is_below a b ≡ false → is_below b c ≡ false → is_below a c ≡ false
above_on a b c h k = strict.chain a b c h k

-- a is below b, which is not above c
pub below_on : (a b c : List ℕ) → is_below a b ≡ true → is_below c b ≡ false → is_below a c ≡ true
below_on a b c h k = elim (cases_Bool (is_below a c)) [ inl t ↦ t | inr f ↦ absurd (true≢false (sym h ∙ above_on a c b f k)) ]

-- a is not above b, which is below c
pub on_below : (a b c : List ℕ) → is_below b a ≡ false → is_below b c ≡ true → is_below a c ≡ true
on_below a b c h k = elim (cases_Bool (is_below a c)) [ inl t ↦ t | inr f ↦ absurd (true≢false (sym k ∙ above_on b a c h f)) ]

le_back : (r s : Ordering) → r ≡ ordering_reverse s → is_le s ≡ true → is_lt r ≡ false
le_back r s h e = grind arith

back_le : (r s : Ordering) → r ≡ ordering_reverse s → is_lt r ≡ false → is_le s ≡ true
back_le r s h e = grind arith

not_le_back : (r s : Ordering) → r ≡ ordering_reverse s → is_le s ≡ false → is_lt r ≡ true
not_le_back r s h e = grind arith

pub le_not : (a b : List ℕ) → is_le (slice_cmp nat_cmp a b) ≡ true → is_below b a ≡ false
le_not a b h = le_back (slice_cmp nat_cmp b a) (slice_cmp nat_cmp a b) (nat_list_cmp_total.antisymm b a) h

pub not_le : (a b : List ℕ) → is_below b a ≡ false → is_le (slice_cmp nat_cmp a b) ≡ true
not_le a b h = back_le (slice_cmp nat_cmp b a) (slice_cmp nat_cmp a b) (nat_list_cmp_total.antisymm b a) h

pub le_false : (a b : List ℕ) → is_le (slice_cmp nat_cmp a b) ≡ false → is_below b a ≡ true
le_false a b h = not_le_back (slice_cmp nat_cmp b a) (slice_cmp nat_cmp a b) (nat_list_cmp_total.antisymm b a) h

pub within_parts : (low high k : List ℕ) → in_bounds low high k ≡ true → (is_below k low ≡ false) × (is_below k high ≡ true)
within_parts low high k h = let it = and_parts (is_le (slice_cmp nat_cmp low k)) (is_below k high) h in (le_not low k it.0, it.1)

pub within_is : (low high k : List ℕ) → is_below k low ≡ false → is_below k high ≡ true → in_bounds low high k ≡ true
within_is low high k h e = and_from (is_le (slice_cmp nat_cmp low k)) (is_below k high) (not_le low k h) e

-- from its end on, and before its begin, nothing is in a range
pub outside_above : (low high k : List ℕ) → is_below k high ≡ false → in_bounds low high k ≡ false
outside_above low high k h = and_no (is_le (slice_cmp nat_cmp low k)) (is_below k high) h

pub outside_below : (low high k : List ℕ) → is_below k low ≡ true → in_bounds low high k ≡ false
outside_below low high k h = elim (cases_Bool (in_bounds low high k)) [ inl t ↦ absurd (true≢false (sym h ∙ (within_parts low high k t).0)) | inr f ↦ f ]

pub not_below_none : (k : List ℕ) → is_below k [] ≡ false
not_below_none [] = refl
not_below_none (x ∷ k) = refl

pub none_within : (k : List ℕ) → in_bounds [] [] k ≡ false
none_within k = outside_above [] [] k (not_below_none k)

neither_order : (r s : Ordering) → r ≡ ordering_reverse s → is_lt r ≡ false → is_lt s ≡ false → s ≡ Equal
neither_order r s h e f = grind arith

pub same_if : (a b : List ℕ) → is_below a b ≡ false → is_below b a ≡ false → a ≡ b
same_if a b h k =
    slice_cmp-IsAntisymmetric nat_cmp-IsAntisymmetric a b (neither_order (slice_cmp nat_cmp b a) (slice_cmp nat_cmp a b) (nat_list_cmp_total.antisymm b a) k h)

-- ---- what comes next above a key

pub below_after : (k : List ℕ) → is_below k (after k) ≡ true
below_after [] = refl
below_after (x ∷ k) = ap (λ o. is_lt (ordering_then o (slice_cmp nat_cmp k (after k)))) (tied_itself nat_cmp_total x) ∙ below_after k

onward : (r s t u : Ordering) → s ≡ ordering_reverse r → is_lt (ordering_then r t) ≡ true → (is_lt t ≡ true → is_lt u ≡ false)
    → is_lt (ordering_then s u) ≡ false
onward Less s t u back h more = ap (λ o. is_lt (ordering_then o u)) back
onward Equal s t u back h more = ap (λ o. is_lt (ordering_then o u)) back ∙ more h
onward Greater s t u back h more = absurd (true≢false (sym h))

never : (y : ℕ) (q : List ℕ) → is_below (y ∷ q) (0 ∷ []) ≡ false
never zero q = ap (λ o. is_lt (ordering_then o (slice_cmp nat_cmp q []))) (sym (nat_cmp_is 0 0 Equal refl)) ∙ not_below_none q
never (suc n) q = ap (λ o. is_lt (ordering_then o (slice_cmp nat_cmp q []))) (sym (nat_cmp_is (suc n) 0 Greater (omega arith)))

pub not_after : (k q : List ℕ) → is_below q (after k) ≡ true → is_below k q ≡ false
not_after [] [] h = refl
not_after [] (y ∷ q) h = absurd (true≢false (sym h ∙ never y q))
not_after (x ∷ k) [] h = refl
not_after (x ∷ k) (y ∷ q) h =
    onward (nat_cmp y x) (nat_cmp x y) (slice_cmp nat_cmp q (after k)) (slice_cmp nat_cmp k q) (nat_cmp_total.antisymm x y) h (not_after k q)
