-- SPDX-License-Identifier: Apache-2.0
-- How many places come after a place among the subscripts, at most: fewer after each that is further on. So a walk to places further on
-- ends, whatever a store holds.
use Rattle.mglobal.proofs.GlobalWords.{ℕ, zero, suc, ◌≡◌, ◌+◌, ◌*◌, ◌-◌, ◌^◌, ◌<◌, ◌≤◌, true, Option, Some, None, [], ◌∷◌, length, refl, ◌∙◌, ap, arith, ◌⊎◌}
use Rattle.mglobal.proofs.GlobalWords.{inl, inr, ℤ, unsigned_abs, slice_cmp, nat_cmp_is, Less, Equal, Greater, nat_cmp, ordering_then, cases_order, nat_tests}
use Rattle.mglobal.proofs.GlobalWords.{All-head, All-tail, raised, IsAscii, Text, canonical_value, Place, Empty, Numeric, Other, place_by, place, place_cmp}
use Rattle.mglobal.proofs.GlobalWords.{significant_digits, is_before, value_in_range, raised_below, raised_order, canonical_of_value}
use Rattle.std.proofs.Math.Nat.{mul-le-mul_right}

-- ---- texts of at most `n` characters, by character codes

texts_of : ℕ → ℕ
texts_of zero = 1
texts_of (suc n) = 129 * texts_of n

some_texts : (n : ℕ) → 0 < texts_of n
unfolding texts_of
some_texts zero = omega arith
some_texts (suc n) = omega (arith, some_texts n)

-- how many stand before it, at most
rank : ℕ → Text → ℕ
rank zero s = 0
rank (suc n) [] = 0
rank (suc n) (c ∷ s) = suc c * texts_of n + rank n s

rank_below : (n : ℕ) (s : Text) → IsAscii s → rank n s < texts_of n
unfolding texts_of rank
rank_below zero s ascii = omega arith
rank_below (suc n) [] ascii = some_texts (suc n)
rank_below (suc n) (c ∷ s) ascii =
    let head : c < 128 = All-head (λ c. c < 128) c s ascii in
    let row : suc c * texts_of n ≤ 128 * texts_of n = mul-le-mul_right (texts_of n) head in
    let rest : rank n s < texts_of n = rank_below n s (All-tail (λ c. c < 128) c s ascii) in
    omega arith

-- by its first character, and otherwise by what comes after it
by_first : (n c d : ℕ) (s t : Text) → IsAscii s → ordering_then (nat_cmp c d) (slice_cmp nat_cmp s t) ≡ Less → (slice_cmp nat_cmp s t ≡ Less → rank n s < rank n t)
    → ((c ≡ d) ⊎ ((c < d) ⊎ (d < c))) → suc c * texts_of n + rank n s < suc d * texts_of n + rank n t
by_first n c d s t ascii e behind (inr (inl before)) = grind (arith, mul-le-mul_right (texts_of n) before, rank_below n s ascii)
by_first n c d s t ascii e behind (inl same) = grind (arith, same, behind (ap (λ o. ordering_then o (slice_cmp nat_cmp s t)) (nat_cmp_is c d Equal same) ∙ e))
by_first n c d s t ascii e behind (inr (inr after)) = grind (arith, nat_cmp_is c d Greater after, e)

rank_order : (n : ℕ) (s t : Text) → IsAscii s → IsAscii t → length s ≤ n → length t ≤ n → slice_cmp nat_cmp s t ≡ Less → rank n s < rank n t
unfolding rank
rank_order n [] [] all_s all_t few_s few_t e = absurd (cc)
rank_order n (c ∷ s) [] all_s all_t few_s few_t e = absurd (cc)
rank_order zero [] (d ∷ t) all_s all_t few_s few_t e = absurd (omega arith)
rank_order zero (c ∷ s) (d ∷ t) all_s all_t few_s few_t e = absurd (omega arith)
rank_order (suc n) [] (d ∷ t) all_s all_t few_s few_t e = let some = some_texts n in omega arith
rank_order (suc n) (c ∷ s) (d ∷ t) all_s all_t few_s few_t e =
    let rest_s = All-tail (λ c. c < 128) c s all_s in
    let rest_t = All-tail (λ c. c < 128) d t all_t in
    by_first n c d s t rest_s e (rank_order n s t rest_s rest_t (omega arith) (omega arith)) (cases_order c d)

-- ---- places

-- the place is one that a subscript can have, or the empty one
Fits : Place → Type 0
Fits Empty = Unit {0}
Fits (Numeric u) = unsigned_abs u < 10 ^ 36
Fits (Other s) = IsAscii s × (length s ≤ 255)

abbrev numbers : ℕ
numbers = 256 ^ 16

place_rank : Place → ℕ
place_rank Empty = 0
place_rank (Numeric u) = suc (raised u)
place_rank (Other s) = suc numbers + rank 255 s

abbrev all_places : ℕ
all_places = suc numbers + texts_of 255

place_below : (p : Place) → Fits p → place_rank p < all_places
unfolding Fits place_rank
place_below Empty fits = omega arith
place_below (Numeric u) fits = let below = raised_below u fits in let some = some_texts 255 in omega arith
place_below (Other s) fits = let below = rank_below 255 s fits.0 in omega arith

is_less : (a b : ℕ) → nat_cmp a b ≡ Less → a < b
is_less a b e = grind (arith, nat_tests)

place_order : (p q : Place) → Fits p → Fits q → place_cmp p q ≡ Less → place_rank p < place_rank q
unfolding Fits place_rank
place_order Empty Empty fits_p fits_q e = absurd (cc)
place_order Empty (Numeric v) fits_p fits_q e = omega arith
place_order Empty (Other t) fits_p fits_q e = omega arith
place_order (Numeric u) Empty fits_p fits_q e = absurd (cc)
place_order (Numeric u) (Numeric v) fits_p fits_q e = let before = is_less (raised u) (raised v) (raised_order u v fits_p fits_q ∙ e) in omega arith
place_order (Numeric u) (Other t) fits_p fits_q e = let below = raised_below u fits_p in omega arith
place_order (Other s) Empty fits_p fits_q e = absurd (cc)
place_order (Other s) (Numeric v) fits_p fits_q e = absurd (cc)
place_order (Other s) (Other t) fits_p fits_q e = let before = rank_order 255 s t fits_p.0 fits_q.0 fits_p.1 fits_q.1 e in omega arith

fits : (s : Text) → IsAscii s → length s ≤ 255 → Fits (place significant_digits s)
unfolding Fits
fits [] ascii few = tt
fits (c ∷ s) ascii few = by_value (canonical_value significant_digits (c ∷ s)) refl
  where
    by_value : (o : Option ℤ) → canonical_value significant_digits (c ∷ s) ≡ o → Fits (place_by (c ∷ s) o)
    by_value (Some u) e = value_in_range significant_digits (c ∷ s) u (canonical_of_value significant_digits (c ∷ s) u e).0
    by_value None e = (ascii, few)

-- ---- after a text

pub places_left : Text → ℕ
places_left s = all_places - place_rank (place significant_digits s)

pub fewer_left : (s t : Text) → IsAscii s → length s ≤ 255 → IsAscii t → length t ≤ 255 → is_before s t ≡ true → places_left t < places_left s
unfolding places_left
fewer_left s t all_s few_s all_t few_t before = grind (arith, fits, place_order, place_below)
